-- Ramps that were found give the printed witness.
use Rattle.std.proofs.Common.{◌≡◌, ℕ, ◌+◌, ◌<◌, ◌≤◌, inl, inr, false, List, length, refl, ap, ◌∙◌, subst, arith}
use Rattle.std.specs.Prelude.{nat_lt, if◌then◌else◌}
use Rattle.std.proofs.lemmas.Bool.Decides.{nat_tests}
use Rattle.path_model.specs.declared.role.Role.{Role}
use Rattle.path_model.specs.declared.role.Direction.{Direction}
use Rattle.path_model.specs.declared.role.Direction.TheVariants.{Up, Down}
use Rattle.path_model.specs.declared.verdict.Verdict.{Verdict}
use Rattle.path_model.specs.declared.witness.Witness.{Witness}
use Rattle.path_model.specs.declared.witness.Witness.TheVariants.{Blocked}
use Rattle.path_model.specs.Authority.{Table}
use Rattle.path_model.specs.Trail.{Path}
use Rattle.path_model.specs.Labelling.{direction_of}
use Rattle.path_model.specs.RightVerdict.{IsInvalidAtOnce}
use Rattle.path_model.specs.Witness.{shown_by}
use Rattle.path_model.specs.PrintedWitness.{IsPrinted}
use Rattle.path_model.specs.Ramps.{Ramps as FourRamps, AreRamps, verdict_by_ramps}
use Rattle.path_model.specs.WitnessByRamps.{witness_by_ramps, last_by, climb_of, unsettled_by}
use Rattle.path_model.proofs.RampLemmas.{some_ramps}
use Rattle.ramps.specs.declared.walk.Ramps.{Ramps}
use Rattle.ramps.specs.Judging.{IsUpstream, IsDownstream}
use Rattle.ramps.specs.Walk.{AreUpRamps, CountsBeside, CountBeside, joined}
use Rattle.path_model.proofs.PrintedLemmas.{has_hops, printed_by_ramps}

shown_as : (table : Table) (role : Role) (neighbour : ℕ) (path : Path) (v : Verdict) (w also : Witness) → also ≡ w
    → IsPrinted table role neighbour path v w → IsPrinted table role neighbour path (shown_by also) also
shown_as table role neighbour path v w also same printed = rw same (rw (← printed.verdict_shown) printed)

-- the witness by the ramps of the chain is the printed one
printed_by : (table : Table) (role : Role) (neighbour : ℕ) (path : Path) (chain : List ℕ) (direction : Direction) (ramps : FourRamps) (w : Witness)
    → chain ≡ path.chain → direction ≡ direction_of role → (IsInvalidAtOnce role neighbour path → ⊥) → AreRamps table chain ramps
    → w ≡ witness_by_ramps direction (length chain) ramps → IsPrinted table role neighbour path (shown_by w) w
printed_by table role neighbour path chain direction ramps w same_chain same_direction judged are given =
    let are_too : AreRamps table path.chain ramps = subst (λ (xs : List ℕ). AreRamps table xs ramps) same_chain are in
    let is : w ≡ witness_by_ramps (direction_of role) (length path.chain) ramps =
    given ∙ ap (λ (xs : List ℕ). witness_by_ramps direction (length xs) ramps) same_chain ∙ ap (λ (d : Direction). witness_by_ramps d (length path.chain) ramps) same_direction in
    shown_as table role neighbour path (verdict_by_ramps (direction_of role) (length path.chain) ramps) (witness_by_ramps (direction_of role) (length path.chain) ramps) w is (printed_by_ramps table role neighbour path ramps judged are_too)

-- upstream the up-ramps suffice
pub printed_up : (table : Table) (role : Role) (neighbour : ℕ) (path : Path) (chain : List ℕ) (up : Ramps) (w : Witness) → chain ≡ path.chain
    → Up ≡ direction_of role → (IsInvalidAtOnce role neighbour path → ⊥)
    → AreUpRamps table chain up → IsUpstream (length chain) up w → IsPrinted table role neighbour path (shown_by w) w
printed_up table role neighbour path chain up w same_chain same_direction judged are given =
    let some : 0 < length chain = rw same_chain (has_hops role neighbour path judged) in
    let all : (ramps : FourRamps) × AreRamps table chain ramps = some_ramps table chain some in
    let down : Ramps = record { minimal = all.0.minimal_down; maximal = all.0.maximal_down } in
    printed_by table role neighbour path chain Up (joined up down) w same_chain same_direction judged
    (record { maximal_up = are.maximal; minimal_up = are.minimal; maximal_down = all.1.maximal_down; minimal_down = all.1.minimal_down }) (given down)

-- what reaches all ASes isn't fewer
reaches_all : (n reached : ℕ) → n ≤ reached → nat_lt reached n ≡ false
reaches_all n reached all = grind (arith, nat_tests)

-- a witness that names the down-ramp only where too few ASes are reached may name the real one
abbrev IsSameBeside : ℕ → ℕ → ℕ → ℕ → Type 0
IsSameBeside n up down real = (f : ℕ → Witness) (w : Witness)
    → (if nat_lt (up + down) n then f down else w) ≡ (if nat_lt (up + real) n then f real else w)

-- a down-ramp that counts gives the same witness as a real one
real_beside : (n up : ℕ) (IsReal : ℕ → Type 0) (down other : ℕ) → CountsBeside n up IsReal down → IsReal other
    → (real : ℕ) × IsReal real × IsSameBeside n up down real
real_beside n up IsReal down other (inl is) holds = (down, is, λ f w. refl)
real_beside n up IsReal down other (inr (all, each)) holds =
    (other, holds, λ f w. rw (reaches_all n (up + down) all) (rw (reaches_all n (up + other) (each other holds)) refl))

-- downstream both count
pub printed_down : (table : Table) (role : Role) (neighbour : ℕ) (path : Path) (chain : List ℕ) (up down : Ramps) (w : Witness) → chain ≡ path.chain
    → Down ≡ direction_of role → (IsInvalidAtOnce role neighbour path → ⊥)
    → AreUpRamps table chain up → CountBeside table chain up down → IsDownstream (length chain) up down w
    → IsPrinted table role neighbour path (shown_by w) w
printed_down table role neighbour path chain up down w same_chain same_direction judged are_up count given =
    let some : 0 < length chain = rw same_chain (has_hops role neighbour path judged) in
    let all : (ramps : FourRamps) × AreRamps table chain ramps = some_ramps table chain some in
    let n = length chain in
    let greatest = real_beside n up.maximal _ down.maximal all.0.maximal_down count.maximal all.1.maximal_down in
    let least = real_beside n up.minimal _ down.minimal all.0.minimal_down count.minimal all.1.minimal_down in
    let real : Ramps = record { minimal = least.0; maximal = greatest.0 } in
    printed_by table role neighbour path chain Down (joined up real) w same_chain same_direction judged
    (record { maximal_up = are_up.maximal; minimal_up = are_up.minimal; maximal_down = greatest.1; minimal_down = least.1 })
    (given ∙ greatest.2 (λ d. Blocked up.maximal (last_by Down n d)) _
    ∙ ap (λ (w : Witness). if nat_lt (up.maximal + real.maximal) n then Blocked up.maximal (last_by Down n real.maximal) else w)
    (least.2 (λ d. unsettled_by up.minimal (last_by Down n d) (climb_of n up.maximal)) _))
