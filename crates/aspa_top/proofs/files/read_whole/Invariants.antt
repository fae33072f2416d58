use Rattle.std.proofs.Common.{◌≡◌, ◌≢◌, ◌+◌, ◌-◌, ◌≤◌, vec_len}
use Rattle.std.specs.Io.KnownBytes.{prepend_known}
use Rattle.av_base.specs.Files.{left_of}
use Rattle.stream_lines.specs.Frames.{Leaves}
use Rattle.aspa_top.proofs.files.read_whole.Given as goal

abbrev pub invariant-loop-buffer : goal.invariant-loop-buffer
invariant-loop-buffer g l = record {
  taken : left_of (g.F.Shelf.files l.fn.shelf) l.file ≡ prepend_known l.bytes.items (left_of (g.F.Shelf.files l.shelf) l.file);
  within : vec_len l.bytes ≤ l.limit + 1;
  others : Leaves (λ other. other ≢ l.file) (g.F.Shelf.files l.fn.shelf) (g.F.Shelf.files l.shelf);
  opened : g.F.Shelf.opened l.shelf ≡ g.F.Shelf.opened l.fn.shelf;
  faults : g.F.Shelf.faults l.fn.shelf ≤ g.F.Shelf.faults l.shelf;
}

abbrev pub decreases-loop-buffer : goal.decreases-loop-buffer
decreases-loop-buffer g l = l.limit + 1 - vec_len l.bytes
