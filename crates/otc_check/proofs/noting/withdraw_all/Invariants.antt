use Rattle.std.proofs.Common.{◌≡◌, List}
use Rattle.path_model.specs.declared.otc.Otc.{Otc}
use Rattle.path_model.specs.Batches.{removals}
use Rattle.otc_check.specs.Marks.{marks_of, noted_by}
use Rattle.otc_check.proofs.noting.withdraw_all.Given as goal

abbrev pub invariant-loop-nlri : goal.invariant-loop-nlri
invariant-loop-nlri l = (notes : List Otc) → noted_by (removals l.fn.peer l.nlri-iterator) notes (marks_of l.marks)
    ≡ noted_by (removals l.fn.peer l.fn.nlris) notes (marks_of l.fn.marks)
