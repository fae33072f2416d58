use Rattle.std.proofs.Common.{◌≡◌, rules}
use Rattle.std.proofs.lemmas.Result.{IfOk-weaker}
use Rattle.worked_paths.specs.Ticks.{route_key}
use Rattle.worked_paths.proofs.TicksLemmas.{changes_are, announced_is, announced_ticks}
use Rattle.worked_paths.proofs.ticks.announce.Goals as goal

pub returns-clause-state : goal.returns-clause-state
returns-clause-state g c =
    let prefix : c.unwrap-prefix.result ≡ route_key.prefix = search rules in
    let are = changes_are c.announce.new.self c.new-changes.result c.unwrap-prefix.result c.in_ok-trail.trail c.new-changes.ensures prefix c.in_ok-trail.ensures c.in_ok-announce.ensures.ok in
    IfOk-weaker _ _ _ (λ next happens. announced_is c.args.analyser next c.announce.new.self c.requires are happens) c.step.ensures.state

pub returns-clause-ticks : goal.returns-clause-ticks
returns-clause-ticks g c =
    let prefix : c.unwrap-prefix.result ≡ route_key.prefix = search rules in
    let are = changes_are c.announce.new.self c.new-changes.result c.unwrap-prefix.result c.in_ok-trail.trail c.new-changes.ensures prefix c.in_ok-trail.ensures c.in_ok-announce.ensures.ok in
    announced_ticks c.args.analyser c.announce.new.self c.args.steps.now c.step.new.steps are c.step.ensures.ticks
