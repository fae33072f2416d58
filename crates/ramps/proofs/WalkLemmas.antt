-- A walk along a chain, and the ramps that it finds.
use Rattle.std.proofs.Common.{◌≡◌, ◌≢◌, ℕ, ◌+◌, ◌-◌, ◌<◌, ◌≤◌, inl, inr, List, length, subst, arith}
use Rattle.std.proofs.lemmas.Bool.{cases_lt}
use Rattle.path_model.specs.declared.authority.Authority.{Authority}
use Rattle.path_model.specs.declared.authority.Authority.TheVariants.{Refuses, Provides}
use Rattle.path_model.specs.Authority.{Table}
use Rattle.path_model.specs.Labelling.{RefusesToClimb, DoesNotClimb, RefusesToDescend, DoesNotDescend}
use Rattle.path_model.specs.Witness.{IsHop}
use Rattle.path_model.specs.Ramps.{IsUpRamp, IsDownRamp}
use Rattle.ramps.specs.declared.walk.Ramps.{Ramps}
use Rattle.ramps.specs.declared.walk.End.TheVariants.{Origin, Neighbour}
use Rattle.ramps.specs.Walk.{said, AreUpRamps, CountsBeside, CountBeside}

-- So many steps were walked: the ramp ends at the first of them that stops it, or is all n ASes.
pub record Went (stops : ℕ → Type 0) (n steps ramp : ℕ) : Type 0 where
  pub some : 0 < ramp
  pub within : ramp ≤ n
  pub goes_on : (j : ℕ) → j < steps → j + 1 < ramp → ¬ stops j
  pub stop : ramp < n → (j : ℕ) × (ramp ≡ j + 1) × (j < steps) × stops j

-- the ramps of so many steps: the maximal one stops at a refusal alone, and the minimal one at silence too
pub record Walked (says : ℕ → Authority) (n steps : ℕ) (ramps : Ramps) : Type 0 where
  pub maximal : Went (λ j. says j ≡ Refuses) n steps ramps.maximal
  pub minimal : Went (λ j. says j ≢ Provides) n steps ramps.minimal

-- the ramp of a walk from the origin is an up-ramp, if it ended at a stop or at the other end
IsUpRamp-went : (chain : List ℕ) (stops : ℕ → Type 0) (steps ramp : ℕ) → Went stops (length chain) steps ramp
    → (length chain ≤ ramp → length chain ≤ steps + 1) → IsUpRamp chain stops ramp
IsUpRamp-went chain stops steps ramp went end = elim (cases_lt ramp (length chain)) [
  | inl less ↦
      let found = went.stop less in inl (record {
        hop = record { place = found.0; number = found.1; within = less; so = found.3 };
        least = λ other hop. elim (cases_lt other ramp) [
          | inl before ↦ absurd (went.goes_on hop.place (omega (arith, found.1, found.2)) (omega arith) hop.so)
          | inr behind ↦ behind
        ];
      })
  | inr all ↦ inr ((λ i hop. went.goes_on hop.place (omega (arith, end all)) (omega arith) hop.so), omega arith)
]

-- a hop that stops the walk from the neighbour lies before the steps that went on
before_steps : (chain : List ℕ) (stops : ℕ → Type 0) (steps i : ℕ) → ((j : ℕ) → j < steps → ¬ stops (length chain - 2 - j))
    → IsHop chain stops i → i + steps < length chain
before_steps chain stops steps i goes_on hop = elim (cases_lt (i + steps) (length chain)) [
  | inl before ↦ before
  | inr behind ↦
      let same : hop.place ≡ length chain - 2 - (length chain - 2 - hop.place) = omega arith in
      absurd (goes_on (length chain - 2 - hop.place) (omega arith) (subst stops same hop.so))
]

-- so a down-ramp has more ASes than these steps
above_steps : (chain : List ℕ) (stops : ℕ → Type 0) (steps ramp : ℕ) → steps < length chain
    → ((j : ℕ) → j < steps → ¬ stops (length chain - 2 - j)) → IsDownRamp chain stops ramp → steps < ramp
above_steps chain stops steps ramp within goes_on (inl (last, is, number)) = omega (arith, number, before_steps chain stops steps last goes_on is.hop)
above_steps chain stops steps ramp within goes_on (inr (none, all)) = omega (arith, all)

-- the ramp of a walk from the neighbour counts, if it ended at a stop or where it met the up-ramp
CountsBeside-went : (chain : List ℕ) (stops : ℕ → Type 0) (up steps ramp : ℕ) → Went (λ j. stops (length chain - 2 - j)) (length chain) steps ramp
    → steps < length chain → (length chain ≤ ramp → length chain ≤ up + (steps + 1)) → CountsBeside (length chain) up (IsDownRamp chain stops) ramp
CountsBeside-went chain stops up steps ramp went within met = elim (cases_lt ramp (length chain)) [
  | inl less ↦
      let found = went.stop less in inl (inl (
        length chain - ramp,
        record {
          hop = record { place = length chain - 2 - found.0; number = omega (arith, found.1); within = omega (arith, found.1); so = found.3 };
          greatest = λ i hop. omega (arith, before_steps chain stops (ramp - 1) i (λ j less. went.goes_on j (omega arith) (omega arith)) hop);
        },
        omega arith,
      ))
  | inr all ↦ inr (
    omega arith,
    λ real is. omega (
      arith,
      met all,
      above_steps chain stops steps real within (λ j before. went.goes_on j before (omega arith)) is,
    ),
  )
]

-- the up-ramps
pub AreUpRamps-walked : (table : Table) (chain : List ℕ) (up : Ramps) (steps : ℕ) → Walked (said Origin table chain) (length chain) steps up
    → (length chain ≤ up.maximal → length chain ≤ steps + 1) → (length chain ≤ up.minimal → length chain ≤ steps + 1) → AreUpRamps table chain up
AreUpRamps-walked table chain up steps walked greatest least = record {
  maximal = IsUpRamp-went chain (RefusesToClimb table chain) steps up.maximal walked.maximal greatest;
  minimal = IsUpRamp-went chain (DoesNotClimb table chain) steps up.minimal walked.minimal least;
}

-- and the down-ramps that count beside them
pub CountBeside-walked : (table : Table) (chain : List ℕ) (up down : Ramps) (steps : ℕ)
    → Walked (said Neighbour table chain) (length chain) steps down → steps < length chain
    → (length chain ≤ down.maximal → length chain ≤ up.maximal + (steps + 1))
    → (length chain ≤ down.minimal → length chain ≤ up.minimal + (steps + 1)) → CountBeside table chain up down
CountBeside-walked table chain up down steps walked within greatest least = record {
  maximal = CountsBeside-went chain (RefusesToDescend table chain) up.maximal steps down.maximal walked.maximal within greatest;
  minimal = CountsBeside-went chain (DoesNotDescend table chain) up.minimal steps down.minimal walked.minimal within least;
}
