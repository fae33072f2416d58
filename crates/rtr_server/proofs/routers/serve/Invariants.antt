use Rattle.std.proofs.Common.{◌≤◌, ◌<◌, ◌*◌, length}
use Rattle.std.specs.Io.KnownBytes.{append_known}
use Rattle.av_base.specs.Told.{Grows}
use Rattle.connection_calls.specs.Connection.{Spares}
use Rattle.connection_calls.specs.Faults.{BreaksByFault}
use Rattle.connection_calls.specs.World.{AddsAttempts}
use Rattle.rtr_server.specs.Steps.{ServedSoFar}
use Rattle.rtr_server.proofs.routers.serve.Given as goal

abbrev pub invariant-loop-accepted : goal.invariant-loop-accepted
invariant-loop-accepted g l = record {
  so_far : ServedSoFar (g.K.Links.attempts l.fn.links) (g.K.Links.attempts l.links) (g.K.Links.wire l.links) l.service.cache.now l.service.line l.service.place.now l.accepted l.answers l.refused
      (append_known (g.W.Sink.written l.fn.out) l.fn.text.items) (append_known (g.W.Sink.written l.out) l.text.items);
  few_answers : l.answers ≤ 65536 * l.accepted;
  few_lines : l.refused ≤ 2 * l.accepted;
  attempts : AddsAttempts (g.K.Links.wire l.fn.links) (g.K.Links.attempts l.fn.links) (g.K.Links.attempts l.links);
  others : Spares (λ other. other < length (g.K.Links.standings l.fn.links)) (g.K.Links.wire l.fn.links) (g.K.Links.wire l.links) (g.K.Links.standings l.fn.links) (g.K.Links.standings l.links);
  broke : BreaksByFault (g.K.Links.faults l.fn.links) (g.K.Links.faults l.links) (g.K.Links.standings l.fn.links) (g.K.Links.standings l.links);
  longer : length (g.K.Links.standings l.fn.links) ≤ length (g.K.Links.standings l.links);
  sink_faults : g.W.Sink.faults l.fn.out ≤ g.W.Sink.faults l.out;
  grows : Grows (g.W.Sink.written l.fn.out) (g.W.Sink.written l.out);
}
