-- The least AS of a kind. Private contracts alone cite it.
use Rattle.std.specs.Prelude.{◌≡◌, ℕ, ◌≤◌, Bool, true}
use Rattle.std.specs.declared.option.Option.{Option}
use Rattle.std.specs.declared.option.Option.TheVariants.{Some, None}

-- this AS is the least one from `from` on of which p is so, or there is none
abbrev pub IsLeast : (ℕ → Bool) → ℕ → Option ℕ → Type 0
IsLeast p from None = (z : ℕ) → from ≤ z → p z ≡ true → ⊥
IsLeast p from (Some y) = (from ≤ y) × (p y ≡ true) × ((z : ℕ) → from ≤ z → p z ≡ true → y ≤ z)
