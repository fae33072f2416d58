use Rattle.std.proofs.Common.{sym, ap, ◌∙◌}
use Rattle.std.specs.Ordering.{is_eq}
use Rattle.sorted_map.proofs.SearchLemmas.{has_last}
use Rattle.sorted_map.proofs.chunk.is_last.Goals as goal

pub returns-in-Some-clause-here : goal.returns-in-Some-clause-here
returns-in-Some-clause-here g c = λ told.
    has_last g.met.K.Ord.total c.args.key.now c.args.keys.now c.in-Some.last.now c.requires (sym c.in-Some.ensures.value) (sym (ap is_eq c.cmp.ensures) ∙ sym c.is_eq.ensures ∙ told)
