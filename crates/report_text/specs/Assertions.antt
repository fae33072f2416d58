-- The line of a script that asserts by hand what a customer attests.
use Rattle.std.specs.Prelude.{ℕ, ◌+◌, ◌<◌, ◌≤◌, List, [], ◌∷◌, ◌++◌, length, take, codes, decimal}
use Rattle.report_text.specs.Details.{ases_text}

-- how many bytes a line of a script has at most, without its line feed
abbrev pub most_bytes : ℕ
most_bytes = 4096

-- an empty row is written as 0, which names no provider
abbrev pub named : List ℕ → List ℕ
named [] = 0 ∷ []
named (provider ∷ providers) = provider ∷ providers

-- the customer and these providers, without the line feed
abbrev pub assertion_line : ℕ → List ℕ → List ℕ
assertion_line customer providers = codes "assert " ++ decimal customer ++ ases_text (named providers)

-- and with it
abbrev pub assertion_text : ℕ → List ℕ → List ℕ
assertion_text customer providers = assertion_line customer providers ++ 10 ∷ []

-- so many of these providers are on the line: as many as it has room for, and at least one
pub record IsFilled (customer : ℕ) (providers : List ℕ) (taken : ℕ) : Type 0 where
  pub within : taken ≤ length providers
  pub some : 0 < length providers → 0 < taken
  pub fits : length (assertion_line customer (take taken providers)) ≤ most_bytes
  pub full : taken < length providers → most_bytes < length (assertion_line customer (take (taken + 1) providers))
