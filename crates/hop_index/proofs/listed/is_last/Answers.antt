use Rattle.std.proofs.Common.{ap, sym, ◌∙◌}
use Rattle.std.specs.Ordering.{is_eq}
use Rattle.std.proofs.lemmas.Cmp.{nat_cmp_total}
use Rattle.sorted_map.proofs.SearchLemmas.{has_last}
use Rattle.hop_index.proofs.listed.is_last.Goals as goal

pub returns-in-Some-clause-here : goal.returns-in-Some-clause-here
returns-in-Some-clause-here c = λ told.
    has_last nat_cmp_total c.args.number c.args.numbers.now c.in-Some.last.now c.requires.rising (sym c.in-Some.ensures.value)
    (sym (ap is_eq c.cmp.ensures) ∙ sym c.is_eq.ensures ∙ told)
