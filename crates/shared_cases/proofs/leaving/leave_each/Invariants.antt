use Rattle.std.proofs.Common.{◌≡◌, ℕ, length}
use Rattle.hop_index.specs.Index.{AreGathered}
use Rattle.shared_cases.specs.Cases.{at}
use Rattle.shared_cases.specs.Kept.{staying, FitBy}
use Rattle.shared_cases.specs.Taking.{left_times, times}
use Rattle.shared_cases.proofs.leaving.leave_each.Given as goal

abbrev pub invariant-loop-number : goal.invariant-loop-number
invariant-loop-number l = record {
  fit : FitBy (staying l.kept.index l.gone) l.slab.slots l.kept;
  left : (n : ℕ) → left_times (times n l.left) (at l.slab.slots n) ≡ left_times (times n l.numbers) (at l.fn.slab.slots n);
  gathered : AreGathered l.kept.index l.gone;
}

abbrev pub decreases-loop-number : goal.decreases-loop-number
decreases-loop-number l = length l.left
