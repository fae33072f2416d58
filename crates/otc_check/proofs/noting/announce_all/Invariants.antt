use Rattle.std.proofs.Common.{◌≡◌, ◌+◌, length, drop}
use Rattle.path_model.specs.Batches.{announcements}
use Rattle.path_model.specs.Trail.{Path}
use Rattle.otc_check.specs.Marks.{marks_of, noted_by}
use Rattle.otc_check.proofs.noting.announce_all.Given as goal

abbrev pub invariant-loop-nlri : goal.invariant-loop-nlri
invariant-loop-nlri l = record {
  within : l.index + length l.nlri-iterator ≡ l.fn.first + length l.fn.nlris;
  marks : (path : Path) → noted_by (announcements l.fn.peer path l.nlri-iterator) (drop l.index l.fn.notes) (marks_of l.marks)
      ≡ noted_by (announcements l.fn.peer path l.fn.nlris) (drop l.fn.first l.fn.notes) (marks_of l.fn.marks);
}
