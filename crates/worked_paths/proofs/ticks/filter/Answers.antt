use Rattle.std.proofs.lemmas.Result.{IfOk-weaker}
use Rattle.worked_paths.proofs.TicksLemmas.{filtered_is, filtered_ticks}
use Rattle.worked_paths.proofs.ticks.filter.Goals as goal

pub returns-clause-state : goal.returns-clause-state
returns-clause-state g c = IfOk-weaker _ _ _ (λ next happens. filtered_is c.args.analyser next c.requires happens) c.step.ensures.state

pub returns-clause-ticks : goal.returns-clause-ticks
returns-clause-ticks g c = filtered_ticks c.args.analyser c.args.steps.now c.step.new.steps c.requires c.step.ensures.ticks
