-- Which payloads are current: those of the sources as a SLURM file has them (RFC 8416, sections 3.3.1 and 3.4.1).
use Rattle.std.specs.Prelude.{◌≡◌, ℕ, true, ◌⊎◌, List, [], ◌∷◌}
use Rattle.origin_model.specs.declared.prefix_filter.PrefixFilter.{PrefixFilter}
use Rattle.origin_model.specs.PrefixFilter.{IsHit}
use Rattle.origin_model.specs.Vrp.{Payload}
use Rattle.origin_model.specs.VrpSet.{has}

-- What the current payloads are made of: those of each named source under its name, and the filters and the asserted payloads of a SLURM
-- file.
pub record Parts : Type 0 where
  pub sources : List (List ℕ × List Payload)
  pub filters : List PrefixFilter
  pub assertions : List Payload

-- at the start there is nothing
abbrev pub no_parts : Parts
no_parts = record { sources = []; filters = []; assertions = [] }

-- some of these sources has it
abbrev pub IsGiven : List (List ℕ × List Payload) → Payload → Type 0
IsGiven [] v = ⊥
IsGiven (source ∷ more) v = (has source.1 v ≡ true) ⊎ IsGiven more v

-- A source has it and no filter hits it, or it is asserted. Filters don't touch assertions.
abbrev pub IsCurrent : Parts → Payload → Type 0
IsCurrent parts v = (IsGiven parts.sources v × (¬ IsHit parts.filters v)) ⊎ (has parts.assertions v ≡ true)
