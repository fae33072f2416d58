use Rattle.std.proofs.Common.{◌≡◌, ◌≤◌, []}
use Rattle.aspa_top.specs.declared.program.TheConstants.{SCRIPT_LIMIT}
use Rattle.aspa_top.specs.Evaluated.{ReadSoFar}
use Rattle.aspa_top.specs.Passed.{names_of, told_unheld}
use Rattle.aspa_top.proofs.program.run_pieces.Given as goal

abbrev pub invariant-pieces : goal.invariant-pieces
invariant-pieces g l = record {
  so_far : ReadSoFar SCRIPT_LIMIT l.room (g.S.Source.left l.fn.script) (g.S.Source.left l.script) l.held.items
      (told_unheld g.F.Shelf g.K.Links g.W.Sink l.fn.outside) (told_unheld g.F.Shelf g.K.Links g.W.Sink l.outside) l.working;
  lent : names_of l.outside ≡ names_of l.fn.outside;
  unheld : l.outside.text.now.items ≡ [];
  faults : g.S.Source.faults l.fn.script ≤ g.S.Source.faults l.script;
}

abbrev pub decreases-pieces : goal.decreases-pieces
decreases-pieces g l = l.room
