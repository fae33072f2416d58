-- The laws of valleys.
use Rattle.std.proofs.Common.{◌≡◌, ℕ, zero, suc, ◌+◌, ◌-◌, ◌<◌, ◌≤◌, inl, inr, List, length, refl, ap, ◌∙◌, arith}
use Rattle.std.specs.Prelude.{slice_index}
use Rattle.std.specs.declared.option.Option.{Option}
use Rattle.std.specs.declared.option.Option.TheVariants.{Some, None}
use Rattle.path_model.specs.declared.role.Role.{Role}
use Rattle.path_model.specs.declared.role.Direction.{Direction}
use Rattle.path_model.specs.declared.role.Direction.TheVariants.{Up, Down}
use Rattle.path_model.specs.declared.verdict.Verdict.{Verdict}
use Rattle.path_model.specs.declared.witness.Witness.TheVariants.{Blocked}
use Rattle.path_model.specs.Authority.{Table, said_by}
use Rattle.path_model.specs.Labelling.{IsValid, RefusesToClimb, RefusesToDescend, direction_of}
use Rattle.path_model.specs.PrintedWitness.{IsPrinted}
use Rattle.path_model.specs.Trail.{Path}
use Rattle.path_model.specs.Witness.{Facts, IsHop, IsLaterHop}
use Rattle.path_model.proofs.Decide.{decided_refuses}
use Rattle.path_model.proofs.WitnessLemmas.{blocked_ever, printed_facts, valid_can}
use Rattle.valleys.specs.declared.valley.Valley.{Valley}
use Rattle.valleys.specs.Laws.{MakesInvalid, RefuseToo}
use Rattle.valleys.specs.Valleys.{EndsDescent, HasValley, IsOpenUntil, IsValley, ases_of}
use Rattle.valleys.specs.Walk.{climb_at, descent_at}
use Rattle.valleys.proofs.OpenLemmas.{climb_refused, descent_refused, open_more, open_new}

-- ---- each blocked path has a valley

-- two hops of the chain between which a valley is
abbrev Found : Table → Direction → List ℕ → Type 0
Found table direction chain = (i : ℕ) × (j : ℕ) × IsValley table direction chain i j

-- a hop of the chain that refuses to descend does so in both directions
ends_at : (table : Table) (direction : Direction) (chain : List ℕ) (j : ℕ) → IsHop chain (RefusesToDescend table chain) j
    → EndsDescent table direction chain j
ends_at table Up chain j hop = inl hop
ends_at table Down chain j hop = hop

-- From an open hop on, with so many hops to go to one that refuses to descend: the first hop that refuses to descend ends a valley.
next_valley : (table : Table) (direction : Direction) (chain : List ℕ) (i k j n : ℕ) → k + n ≡ j → j ≤ length chain
    → IsOpenUntil table chain i k → EndsDescent table direction chain j → Found table direction chain
next_valley table direction chain i k j zero sum within is ends =
    let same : k ≡ j = omega arith in
    (i, j, record { opened = rw same at is; ends = ends })
next_valley table direction chain i k j (suc n) sum within is ends =
    let some : 0 < k = omega (arith, is.before) in
    let inside : k < length chain = omega arith in
    elim (decided_refuses (descent_at table chain k)) [
      | inl descent ↦ (i, k, record { opened = is; ends = ends_at table direction chain k ((descent_refused table chain k some inside).0 descent) })
      | inr no_descent ↦ elim (decided_refuses (climb_at table chain k)) [
        | inl climb ↦ next_valley table direction chain k (k + 1) j n (omega arith) within (open_new table chain k ((climb_refused table chain k some inside).0 climb)) ends
        | inr no_climb ↦ next_valley table direction chain i (k + 1) j n (omega arith) within
            (open_more table chain i k is (λ hop. no_climb ((climb_refused table chain k some inside).1 hop)) (λ hop. no_descent ((descent_refused table chain k some inside).1 hop))) ends
      ]
    ]

-- a hop that refuses to climb, before one that refuses to descend
between : (table : Table) (direction : Direction) (chain : List ℕ) (first j : ℕ) → first < j → j ≤ length chain
    → IsHop chain (RefusesToClimb table chain) first → EndsDescent table direction chain j → Found table direction chain
between table direction chain first j before within hop ends =
    next_valley table direction chain first (first + 1) j (j - (first + 1)) (omega arith) within (open_new table chain first hop) ends

-- what a blocked path's witness shows gives a valley
blocked_found : (table : Table) (direction : Direction) (chain : List ℕ) (first : ℕ) (last : Option ℕ) → IsHop chain (RefusesToClimb table chain) first
    → IsLaterHop direction chain (RefusesToDescend table chain) first last → Found table direction chain
blocked_found table Up chain first last hop later = between table Up chain first (length chain) hop.within (omega arith) hop (inr refl)
blocked_found table Down chain first None hop later = absurd later
blocked_found table Down chain first (Some last) hop later = between table Down chain first last later.0 (omega (arith, later.1.within)) hop later.1

pub blocked_has : (table : Table) (role : Role) (neighbour : ℕ) (path : Path) (verdict : Verdict) (first : ℕ) (last : Option ℕ)
    → IsPrinted table role neighbour path verdict (Blocked first last) → (valley : Valley) × HasValley table (direction_of role) path.chain valley
blocked_has table role neighbour path verdict first last printed =
    let facts : Facts table role neighbour path verdict (Blocked first last) = printed_facts table role neighbour path verdict (Blocked first last) printed in
    let found : Found table (direction_of role) path.chain = blocked_found table (direction_of role) path.chain first last facts.shows.1 facts.shows.2 in
    (ases_of path.chain found.0 found.1, record { i = found.0; j = found.1; is = found.2; ases = refl })

-- ---- the two hops of a valley make its path invalid

refusals_misfit : (other : Table) (direction : Direction) (chain : List ℕ) (i j : ℕ) → i < j → RefuseToo other direction chain i j
    → IsValid other direction chain → ⊥
refusals_misfit other Up chain i j before refuse valid = blocked_ever other Up chain i None refuse.climb refl (valid_can other Up chain valid)
refusals_misfit other Down chain i j before refuse valid = blocked_ever other Down chain i (Some j) refuse.climb (before, refuse.descent) (valid_can other Down chain valid)

-- a hop refuses to climb by each table that has the row of its lower AS
climb_stands : (table other : Table) (chain : List ℕ) (i : ℕ) → IsHop chain (RefusesToClimb table chain) i
    → other (slice_index chain (i - 1)) ≡ table (slice_index chain (i - 1)) → IsHop chain (RefusesToClimb other chain) i
climb_stands table other chain i hop stands =
    let lower : i - 1 ≡ hop.place = omega (arith, hop.number) in
    let row : other (slice_index chain hop.place) ≡ table (slice_index chain hop.place) = rw lower at stands in
    record { place = hop.place; number = hop.number; within = hop.within; so = ap (λ row. said_by row (slice_index chain (hop.place + 1))) row ∙ hop.so }

-- and to descend by each that has the row of its upper AS
descent_stands : (table other : Table) (chain : List ℕ) (j : ℕ) → IsHop chain (RefusesToDescend table chain) j
    → other (slice_index chain j) ≡ table (slice_index chain j) → IsHop chain (RefusesToDescend other chain) j
descent_stands table other chain j hop stands =
    let row : other (slice_index chain (hop.place + 1)) ≡ table (slice_index chain (hop.place + 1)) = rw hop.number at stands in
    record { place = hop.place; number = hop.number; within = hop.within; so = ap (λ row. said_by row (slice_index chain hop.place)) row ∙ hop.so }

ends_stand : (table other : Table) (direction : Direction) (chain : List ℕ) (j : ℕ) → EndsDescent table direction chain j
    → (j < length chain → other (slice_index chain j) ≡ table (slice_index chain j)) → EndsDescent other direction chain j
ends_stand table other Up chain j (inl hop) stands = inl (descent_stands table other chain j hop (stands hop.within))
ends_stand table other Up chain j (inr same) stands = inr same
ends_stand table other Down chain j hop stands = descent_stands table other chain j hop (stands hop.within)

pub makes_invalid : (table : Table) (direction : Direction) (chain : List ℕ) (i j : ℕ) → IsValley table direction chain i j
    → MakesInvalid table direction chain i j
makes_invalid table direction chain i j is = record {
  by_refusals = λ other refuse. refusals_misfit other direction chain i j is.opened.before refuse;
  by_rows = λ other stand. refusals_misfit other direction chain i j is.opened.before (record {
    climb = climb_stands table other chain i is.opened.opens stand.lower;
    descent = ends_stand table other direction chain j is.ends stand.upper;
  });
}
