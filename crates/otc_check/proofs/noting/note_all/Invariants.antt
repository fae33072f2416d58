use Rattle.std.proofs.Common.{◌≡◌, ◌+◌, drop}
use Rattle.path_model.specs.Batches.{all_changes}
use Rattle.path_model.specs.Notes.{announced_of}
use Rattle.otc_check.specs.Marks.{marks_of, noted_by}
use Rattle.otc_check.proofs.noting.note_all.Given as goal

abbrev pub invariant-loop-batch : goal.invariant-loop-batch
invariant-loop-batch l = record {
  within : l.index + announced_of (all_changes (drop l.batch-index l.batch-items)) ≡ announced_of l.fn.noted.changes;
  marks : noted_by (all_changes (drop l.batch-index l.batch-items)) (drop l.index l.fn.noted.notes) (marks_of l.marks)
      ≡ noted_by l.fn.noted.changes l.fn.noted.notes (marks_of l.fn.marks);
}
