use Rattle.std.proofs.Common.{◌≡◌, ◌≢◌, ◌-◌, ◌≤◌, length}
use Rattle.std.specs.Io.KnownBytes.{prepend_known}
use Rattle.av_base.specs.Files.{left_of}
use Rattle.stream_lines.specs.Frames.{Leaves}
use Rattle.stream_lines.specs.Gives.{longest}
use Rattle.stream_lines.specs.Held.{held_of, known_of}
use Rattle.stream_lines.proofs.dump.fill.Given as goal

abbrev pub invariant-loop-alloc : goal.invariant-loop-alloc
invariant-loop-alloc g l = record {
  known : known_of l.reader ≡ known_of l.fn.reader;
  same : prepend_known (held_of l.reader) (left_of (g.F.Shelf.files l.shelf) l.file) ≡ prepend_known (held_of l.fn.reader) (left_of (g.F.Shelf.files l.fn.shelf) l.file);
  others : Leaves (λ other. other ≢ l.file) (g.F.Shelf.files l.fn.shelf) (g.F.Shelf.files l.shelf);
  opened : g.F.Shelf.opened l.shelf ≡ g.F.Shelf.opened l.fn.shelf;
  faults : g.F.Shelf.faults l.fn.shelf ≤ g.F.Shelf.faults l.shelf;
}

-- until a whole unit is held
abbrev pub decreases-loop-alloc : goal.decreases-loop-alloc
decreases-loop-alloc g l = longest - length (held_of l.reader)
