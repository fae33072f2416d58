use Rattle.std.proofs.Common.{◌≡◌, ℕ, ◌||◌}
use Rattle.shared_cases.specs.Numbers.{has}
use Rattle.shared_cases.specs.Touching.{asks}
use Rattle.shared_cases.proofs.touched.touch_ends.Given as goal

abbrev pub invariant-loop-provider : goal.invariant-loop-provider
invariant-loop-provider l = (n : ℕ) → (has l.touched n || asks l.index l.rows n l.provider-iterator) ≡ (has l.fn.touched n || asks l.index l.rows n l.initial.provider-iterator)
