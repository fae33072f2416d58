use Rattle.std.proofs.Common.{◌≡◌, ◌-◌, length}
use Rattle.av_base.specs.Connections.{IsUsable}
use Rattle.connection_calls.specs.Faults.{BreaksByFault}
use Rattle.connection_calls.specs.Moves.{Asking, Only, KeepsSent}
use Rattle.connection_calls.proofs.asking.next_pdu.Given as goal

abbrev pub invariant-pieces : goal.invariant-pieces
invariant-pieces g l = record {
  so_far : Asking (g.K.Links.wire l.fn.links) (g.K.Links.wire l.links) l.link l.fn.framer l.framer;
  keeps : KeepsSent l.link (g.K.Links.wire l.fn.links) (g.K.Links.wire l.links);
  usable : IsUsable (g.K.Links.standings l.links) l.link;
  only : Only l.link (g.K.Links.wire l.fn.links) (g.K.Links.wire l.links) (g.K.Links.standings l.fn.links) (g.K.Links.standings l.links);
  attempts : g.K.Links.attempts l.links ≡ g.K.Links.attempts l.fn.links;
  broke : BreaksByFault (g.K.Links.faults l.fn.links) (g.K.Links.faults l.links) (g.K.Links.standings l.fn.links) (g.K.Links.standings l.links);
}

abbrev pub decreases-pieces : goal.decreases-pieces
decreases-pieces g l = 262144 - length l.framer
