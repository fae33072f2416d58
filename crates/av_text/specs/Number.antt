-- How a number of 32 bits is written: decimal digits, with no sign and no leading zero.
use Rattle.std.specs.Prelude.{◌≡◌, ◌≢◌, ℕ, ◌<◌, ◌^◌, List, decimal}

-- a number of 32 bits
abbrev pub Is32Bit : ℕ → Type 0
Is32Bit n = n < 2 ^ 32

-- the text is the one spelling of n, a number of 32 bits
abbrev pub IsNumber : List ℕ → ℕ → Type 0
IsNumber text n = Is32Bit n × (text ≡ decimal n)

-- the text spells no number of 32 bits
abbrev pub IsNoNumber : List ℕ → Type 0
IsNoNumber text = (n : ℕ) → n < 2 ^ 32 → text ≢ decimal n
