-- The words that a line holds as they are.
use Rattle.std.specs.Prelude.{ℕ, ◌≤◌}

-- a byte of printable ASCII other than a blank: `!` to `~`
abbrev pub IsVisible : ℕ → Type 0
IsVisible byte = (33 ≤ byte) × (byte ≤ 126)

-- a byte of printable ASCII, be it a space: space to `~`
abbrev pub IsSaid : ℕ → Type 0
IsSaid byte = (32 ≤ byte) × (byte ≤ 126)
