use Rattle.std.proofs.lemmas.Result.{IfOk-weaker}
use Rattle.worked_paths.proofs.TicksLemmas.{default_role_is, default_role_ticks}
use Rattle.worked_paths.proofs.ticks.set_default.Goals as goal

pub returns-clause-state : goal.returns-clause-state
returns-clause-state g c = IfOk-weaker _ _ _ (λ next happens. default_role_is c.args.analyser next c.requires happens) c.step.ensures.state

pub returns-clause-ticks : goal.returns-clause-ticks
returns-clause-ticks g c = default_role_ticks c.args.analyser c.args.steps.now c.step.new.steps c.requires c.step.ensures.ticks
