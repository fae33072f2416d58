use Rattle.std.proofs.Common.{◌≡◌, ℕ, ◌||◌, drop}
use Rattle.shared_cases.specs.Numbers.{has}
use Rattle.shared_cases.specs.Touching.{asks}
use Rattle.shared_cases.proofs.touched.touch_asked.Given as goal

abbrev pub invariant-loop-provider : goal.invariant-loop-provider
invariant-loop-provider l = (n : ℕ) → (has l.touched n || asks l.index l.rows n (drop l.provider-index l.asked)) ≡ (has l.fn.touched n || asks l.index l.rows n l.asked)
