-- The ramps of draft-ietf-sidrops-aspa-verification, and the verdict that their comparison gives. The draft counts ASes from 1 at the origin, and
-- so the hop between the ASes I and I + 1 has the number I.
use Rattle.std.specs.Prelude.{◌≡◌, ℕ, ◌+◌, nat_lt, List, length, if◌then◌else◌, ◌⊎◌}
use Rattle.path_model.specs.declared.role.Direction.{Direction}
use Rattle.path_model.specs.declared.role.Direction.TheVariants.{Up, Down}
use Rattle.path_model.specs.declared.verdict.Verdict.{Verdict}
use Rattle.path_model.specs.declared.verdict.Verdict.TheVariants.{Valid, Unknown, Invalid}
use Rattle.path_model.specs.Authority.{Table}
use Rattle.path_model.specs.Labelling.{RefusesToClimb, RefusesToDescend, DoesNotClimb, DoesNotDescend}
use Rattle.path_model.specs.Witness.{IsHop}
use Rattle.path_model.specs.PrintedWitness.{IsLeastHop, IsGreatestHop}

-- An up-ramp is the number of the least hop that stops it, or the number of ASes if none does.
abbrev pub IsUpRamp : List ℕ → (ℕ → Type 0) → ℕ → Type 0
IsUpRamp chain stops ramp = IsLeastHop chain stops ramp ⊎ (((i : ℕ) → ¬ IsHop chain stops i) × (ramp ≡ length chain))

-- A down-ramp is the number of ASes behind the greatest hop that stops it, or the number of all ASes if none does.
abbrev pub IsDownRamp : List ℕ → (ℕ → Type 0) → ℕ → Type 0
IsDownRamp chain stops ramp = ((last : ℕ) × IsGreatestHop chain stops last × (last + ramp ≡ length chain))
    ⊎ (((i : ℕ) → ¬ IsHop chain stops i) × (ramp ≡ length chain))

-- four numbers of ASes
pub record Ramps : Type 0 where
  pub maximal_up : ℕ
  pub minimal_up : ℕ
  pub maximal_down : ℕ
  pub minimal_down : ℕ

-- the four ramps of a chain: a maximal one stops at a refusal alone, and a minimal one at silence too
pub record AreRamps (table : Table) (chain : List ℕ) (ramps : Ramps) : Type 0 where
  pub maximal_up : IsUpRamp chain (RefusesToClimb table chain) ramps.maximal_up
  pub minimal_up : IsUpRamp chain (DoesNotClimb table chain) ramps.minimal_up
  pub maximal_down : IsDownRamp chain (RefusesToDescend table chain) ramps.maximal_down
  pub minimal_down : IsDownRamp chain (DoesNotDescend table chain) ramps.minimal_down

-- how many ASes an up-ramp and a down-ramp reach together; upstream the up-ramp alone counts
abbrev pub reach : Direction → ℕ → ℕ → ℕ
reach Up up down = up
reach Down up down = up + down

-- The draft's comparison with the number n of ASes. Maximal ramps that reach fewer: invalid. Else minimal ones that do: unknown. Else valid.
abbrev pub verdict_by_ramps : Direction → ℕ → Ramps → Verdict
verdict_by_ramps direction n ramps =
    if nat_lt (reach direction ramps.maximal_up ramps.maximal_down) n then Invalid
    else if nat_lt (reach direction ramps.minimal_up ramps.minimal_down) n then Unknown else Valid
