use Rattle.std.proofs.Common.{◌≡◌, ℕ, false, ◌+◌, length}
use Rattle.path_model.specs.Authority.{has}
use Rattle.shared_cases.proofs.unmatched.unmatched.Given as goal

-- what wasn't found so far is in both lists or in neither, where it is so with what is left of them
abbrev pub invariant-loop-x : goal.invariant-loop-x
invariant-loop-x l = (y : ℕ) → has l.found.items y ≡ false → has l.one y ≡ has l.other y → has l.fn.one y ≡ has l.fn.other y

abbrev pub decreases-loop-x : goal.decreases-loop-x
decreases-loop-x l = length l.one + length l.other
