use Rattle.std.proofs.Common.{◌≡◌, ◌≤◌, []}
use Rattle.av_base.specs.Connections.{IsUsable}
use Rattle.connection_calls.specs.Connection.{Has, Now}
use Rattle.connection_calls.specs.Faults.{BreaksByFault}
use Rattle.connection_calls.specs.Moves.{Only}
use Rattle.rtr_server.specs.Steps.{SoFar}
use Rattle.rtr_server.proofs.serving.serve_router.Given as goal

abbrev pub invariant-loop-taken : goal.invariant-loop-taken
invariant-loop-taken g l = record {
  so_far : Now (g.K.Links.wire l.fn.links) l.link (Has [] []) → SoFar (g.K.Links.wire l.links) l.link l.cache l.framer l.taken l.answers;
  few : l.answers ≤ l.taken;
  usable : IsUsable (g.K.Links.standings l.links) l.link;
  only : Only l.link (g.K.Links.wire l.fn.links) (g.K.Links.wire l.links) (g.K.Links.standings l.fn.links) (g.K.Links.standings l.links);
  attempts : g.K.Links.attempts l.links ≡ g.K.Links.attempts l.fn.links;
  broke : BreaksByFault (g.K.Links.faults l.fn.links) (g.K.Links.faults l.links) (g.K.Links.standings l.fn.links) (g.K.Links.standings l.links);
}
