-- Chains in one list of words, each behind its length. Private contracts alone cite it.
use Rattle.std.specs.Prelude.{◌≡◌, ℕ, ◌+◌, ◌≤◌, List, length, map, take, drop, slice_index_or, ◌⊎◌}
use Rattle.hop_index.specs.Loose.{Chains}

-- the chain that begins at this place; none behind the end
abbrev pub chain_in : List ℕ → ℕ → List ℕ
chain_in words begin = take (slice_index_or words begin 0) (drop (begin + 1) words)

abbrev pub chains_in : List ℕ → List ℕ → Chains
chains_in words begins = map (chain_in words) begins

-- none begins there
abbrev pub no_place : ℕ
no_place = 4294967295

-- a whole chain begins there, or none does
abbrev pub IsWithin : List ℕ → ℕ → Type 0
IsWithin words begin = (begin ≡ no_place) ⊎ (begin + 1 + slice_index_or words begin 0 ≤ length words)

pub record AreWithin (words begins : List ℕ) : Type 0 where
  pub few : length words ≤ no_place
  pub each : (k : ℕ) → IsWithin words (slice_index_or begins k no_place)
