use Rattle.std.proofs.Common.{◌≡◌, ◌≢◌, ◌≤◌}
use Rattle.std.specs.Io.KnownBytes.{append_known}
use Rattle.av_base.specs.Told.{Grows}
use Rattle.av_text.specs.Spellings.{IsInLine}
use Rattle.report_text.specs.Reported.{AddsQuiet}
use Rattle.stream_lines.specs.Frames.{Leaves}
use Rattle.stream_lines.specs.Holding.{LetsGo}
use Rattle.stream_lines.specs.Taking.{GrewBy, TicksWithinUnits, TookUnits, asking_of}
use Rattle.stream_lines.proofs.TakingUntilLemmas.{WentOn}
use Rattle.stream_lines.proofs.extent.take.Given as goal

abbrev pub invariant-loop-turn : goal.invariant-loop-turn
invariant-loop-turn g l = record {
  took : TookUnits (asking_of l.asked) l._turn l.fn.dump l.dump l.fn.progress (g.F.Shelf.files l.fn.shelf) (g.F.Shelf.files l.shelf)
      (append_known (g.W.Sink.written l.fn.out) l.fn.text.items) (append_known (g.W.Sink.written l.out) l.text.items) l.progress;
  went : WentOn (asking_of l.asked) l.asked.until l.fn.dump l.fn.progress (g.F.Shelf.files l.fn.shelf) l._turn;
  within : l._turn ≤ l.asked.count;
  file : l.dump.file ≡ l.fn.dump.file;
  lets_go : LetsGo l.fn.dump l.dump (g.F.Shelf.files l.shelf);
  few : GrewBy l._turn l.fn.dump l.dump l.fn.progress l.progress;
  ticks : TicksWithinUnits (asking_of l.asked) l._turn l.fn.dump l.fn.progress (g.F.Shelf.files l.fn.shelf) l.fn.steps l.steps;
  others : Leaves (λ other. other ≢ l.fn.dump.file) (g.F.Shelf.files l.fn.shelf) (g.F.Shelf.files l.shelf);
  opened : g.F.Shelf.opened l.shelf ≡ g.F.Shelf.opened l.fn.shelf;
  shelf_faults : g.F.Shelf.faults l.fn.shelf ≤ g.F.Shelf.faults l.shelf;
  grows : Grows (g.W.Sink.written l.fn.out) (g.W.Sink.written l.out);
  sink_faults : g.W.Sink.faults l.fn.out ≤ g.W.Sink.faults l.out;
  reports : IsInLine l.asked.name.now → AddsQuiet (append_known (g.W.Sink.written l.fn.out) l.fn.text.items) (append_known (g.W.Sink.written l.out) l.text.items);
}
