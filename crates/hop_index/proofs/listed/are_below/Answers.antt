use Rattle.std.proofs.Common.{ap, sym, ◌∙◌}
use Rattle.std.specs.Ordering.{is_gt}
use Rattle.std.proofs.lemmas.Cmp.{nat_cmp_total}
use Rattle.sorted_map.proofs.SearchLemmas.{below_by_last_key}
use Rattle.hop_index.proofs.listed.are_below.Goals as goal

pub returns-in-Some : goal.returns-in-Some
returns-in-Some c = λ told.
    below_by_last_key nat_cmp_total c.args.number c.args.numbers.now c.in-Some.last.now c.requires.rising (sym c.in-Some.ensures.value)
    (sym (ap is_gt c.cmp.ensures) ∙ sym c.is_gt.ensures ∙ told)
