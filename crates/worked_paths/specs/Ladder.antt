-- Attestations of the ASes below a number.
use Rattle.std.specs.Prelude.{ℕ, nat_lt, ◌+◌, List, [], ◌∷◌, if◌then◌else◌}
use Rattle.std.specs.declared.option.Option.{Option}
use Rattle.std.specs.declared.option.Option.TheVariants.{Some, None}

-- each attests its successor alone
abbrev pub ladder : ℕ → ℕ → Option (List ℕ)
ladder below customer = if nat_lt customer below then Some ((customer + 1) ∷ []) else None

-- each has no provider
abbrev pub alone : ℕ → ℕ → Option (List ℕ)
alone below customer = if nat_lt customer below then Some [] else None
