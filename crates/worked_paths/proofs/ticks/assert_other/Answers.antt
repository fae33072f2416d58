use Rattle.std.proofs.lemmas.Result.{IfOk-weaker}
use Rattle.worked_paths.proofs.TicksLemmas.{other_asserted_is, other_asserted_ticks}
use Rattle.worked_paths.proofs.ticks.assert_other.Goals as goal

pub returns-clause-state : goal.returns-clause-state
returns-clause-state g c = IfOk-weaker _ _ _ (λ next happens. other_asserted_is c.args.analyser next c.in_ok-providers.providers c.requires c.in_ok-providers.ensures happens) c.step.ensures.state

pub returns-clause-ticks : goal.returns-clause-ticks
returns-clause-ticks g c = other_asserted_ticks c.args.analyser c.in_ok-providers.providers c.args.steps.now c.step.new.steps c.requires c.in_ok-providers.ensures c.step.ensures.ticks
