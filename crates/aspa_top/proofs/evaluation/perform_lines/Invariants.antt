use Rattle.std.proofs.Common.{◌+◌, ◌≤◌, List, ℕ, ◌++◌, length}
use Rattle.std.specs.Io.KnownBytes.{append_known}
use Rattle.av_text.specs.Lines.{lines_in}
use Rattle.report_text.specs.Reported.{AddsLines}
use Rattle.aspa_top.specs.Outside.{Outside}
use Rattle.aspa_top.specs.Passed.{KeepsAll, told, told_unheld}
use Rattle.aspa_top.specs.Performing.{Performing}
use Rattle.aspa_top.specs.Script.{ReadAs}
use Rattle.aspa_top.specs.Standing.{IsReady}
use Rattle.aspa_top.specs.World.{Tells, World}
use Rattle.aspa_top.proofs.ReadAsLemmas.{PerformingAs}
use Rattle.aspa_top.proofs.evaluation.perform_lines.Given as goal

abbrev pub invariant-loop-line : goal.invariant-loop-line
invariant-loop-line g l = record {
  so_far : (world : World) → Tells (g.F.Shelf.files l.fn.outside.shelf.now) world → (begun : Outside) (all more own : List (List ℕ)) → ReadAs own (lines_in l.whole l.lines)
      → Performing world all (own ++ more) begun (told_unheld g.F.Shelf g.K.Links g.W.Sink l.fn.outside) l.fn.working
      → PerformingAs world all begun (lines_in l.whole l.left) more (told g.F.Shelf g.K.Links g.W.Sink l.outside) l.working;
  keeps : KeepsAll g.F.Shelf g.K.Links g.W.Sink l.fn.outside l.outside;
  count : l.working.lines + length l.left ≤ l.fn.working.lines + length l.lines;
  ready : IsReady (told g.F.Shelf g.K.Links g.W.Sink l.outside) l.working;
  adds : AddsLines (g.W.Sink.written l.fn.outside.out.now) (append_known (g.W.Sink.written l.outside.out.now) l.outside.text.now.items) (g.K.Links.faults l.fn.outside.links.now) (g.K.Links.faults l.outside.links.now);
}

abbrev pub decreases-loop-line : goal.decreases-loop-line
decreases-loop-line g l = length l.left
