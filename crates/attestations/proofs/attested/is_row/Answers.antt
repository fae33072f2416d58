use Rattle.std.proofs.Common.{nat_eq, ◌∙◌}
use Rattle.std.specs.Cmp.Lexicographic.{pointwise}
use Rattle.attestations.proofs.TermLemmas.{row_alone}
use Rattle.attestations.proofs.attested.is_row.Goals as goal

pub returns-then-is_none : goal.returns-then-is_none
returns-then-is_none c = row_alone c.args.terms.now c.term-item.result c.args.row.now c.is_none.result c.eq.result c.term-item.is c.in-len1.len_at_least c.in-len1.len_below
    c.is_none.ensures c.if-is_none.true (c.eq.ensures ∙ (λ i. pointwise nat_eq (c.as_slice.ensures i) (c.as_slice-then-is_none.ensures i)))
