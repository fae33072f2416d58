-- The printed witness: the ramps give it, and it is the only one.
use Rattle.std.proofs.Common.{◌≡◌, ℕ, nat_lt, ◌+◌, ◌-◌, ◌<◌, ◌≤◌, ◌⊎◌, inl, inr, Bool, true, false, cond, List, [], ◌∷◌, length, slice_get, refl, sym, ap, ◌∙◌, arith}
use Rattle.std.proofs.lemmas.Bool.{cases_lt, ltb-true}
use Rattle.std.specs.declared.option.Option.{Option}
use Rattle.std.specs.declared.option.Option.TheVariants.{Some, None}
use Rattle.path_model.specs.declared.role.Role.{Role}
use Rattle.path_model.specs.declared.role.Direction.{Direction}
use Rattle.path_model.specs.declared.role.Direction.TheVariants.{Up, Down}
use Rattle.path_model.specs.declared.verdict.Verdict.{Verdict}
use Rattle.path_model.specs.declared.verdict.Verdict.TheVariants.{Valid, Unknown, Invalid}
use Rattle.path_model.specs.declared.witness.Witness.{Witness}
use Rattle.path_model.specs.declared.witness.Witness.TheVariants.{Valid as ByLabelling, Empty, Set, Neighbour, Blocked, Unsettled}
use Rattle.path_model.specs.Authority.{Table}
use Rattle.path_model.specs.Trail.{Path}
use Rattle.path_model.specs.Labelling.{Labelling, Climbs, direction_of, tests_neighbour, RefusesToClimb, MayClimb, DoesNotClimb}
use Rattle.path_model.specs.RightVerdict.{EndsAt, IsInvalidAtOnce, IsRight}
use Rattle.path_model.specs.Witness.{labelling, shown_by}
use Rattle.path_model.specs.PrintedWitness.{IsLeastHop, IsLastHop, IsLongestClimb, IsChosen, IsPrinted}
use Rattle.path_model.specs.Ramps.{Ramps, AreRamps, reach, verdict_by_ramps}
use Rattle.path_model.specs.WitnessByRamps.{climb_of, last_by, valid_by, unsettled_by, witness_by_ramps}
use Rattle.path_model.specs.Laws.{IsRightByHops}
use Rattle.path_model.proofs.Decide.{decided_empty, decided_true, decided_some_is}
use Rattle.path_model.proofs.WitnessLemmas.{attests}
use Rattle.path_model.proofs.RampLemmas.{Reaches, AreRamps-Reaches, right_by_tests, least_short, last_short, longest_climb, some_ramps}

-- a list that isn't empty has a length
some_hops : (chain : List ℕ) → (chain ≡ [] → ⊥) → 0 < length chain
some_hops [] some = absurd (some refl)
some_hops (x ∷ xs) some = omega arith

-- a path that isn't empty
pub has_hops : (role : Role) (neighbour : ℕ) (path : Path) → (IsInvalidAtOnce role neighbour path → ⊥) → 0 < length path.chain
has_hops role neighbour path judged = some_hops path.chain (λ none. judged (inl none))

-- the rules behind the first, where that doesn't apply
right_from_hops : (table : Table) (role : Role) (neighbour : ℕ) (path : Path) (v : Verdict) → (IsInvalidAtOnce role neighbour path → ⊥)
    → IsRightByHops table (direction_of role) path.chain v → IsRight table role neighbour path v
right_from_hops table role neighbour path Valid judged by = (judged, by)
right_from_hops table role neighbour path Unknown judged by = (judged, by.0, by.1)
right_from_hops table role neighbour path Invalid judged by = inr (by.0, by.1)

-- the two tests of the ramps, and what is printed at each of their answers
printed_by_tests : (table : Table) (role : Role) (neighbour : ℕ) (path : Path) (ramps : Ramps) (hopeless undecided : Bool)
    → (IsInvalidAtOnce role neighbour path → ⊥) → Reaches table path.chain ramps
    → nat_lt (reach (direction_of role) ramps.maximal_up ramps.maximal_down) (length path.chain) ≡ hopeless → nat_lt (reach (direction_of role) ramps.minimal_up ramps.minimal_down) (length path.chain) ≡ undecided
    → IsPrinted table role neighbour path (cond hopeless Invalid (cond undecided Unknown Valid))
    (cond hopeless (Blocked ramps.maximal_up (last_by (direction_of role) (length path.chain) ramps.maximal_down))
    (cond undecided (unsettled_by ramps.minimal_up (last_by (direction_of role) (length path.chain) ramps.minimal_down) (climb_of (length path.chain) ramps.maximal_up))
    (valid_by (climb_of (length path.chain) ramps.minimal_up))))
printed_by_tests table role neighbour path ramps true undecided judged by test other = record {
  right = right_from_hops table role neighbour path Invalid judged (right_by_tests table (direction_of role) path.chain ramps true undecided by test other);
  verdict_shown = refl;
  chosen = (
    judged,
    least_short (direction_of role) path.chain _ _ ramps.maximal_up ramps.maximal_down by.maximal_up by.maximal_down (ltb-true _ _ test),
    last_short (direction_of role) path.chain _ _ ramps.maximal_up ramps.maximal_down by.maximal_up by.maximal_down (ltb-true _ _ test),
  );
}
printed_by_tests table role neighbour path ramps false true judged by test other = record {
  right = right_from_hops table role neighbour path Unknown judged (right_by_tests table (direction_of role) path.chain ramps false true by test other);
  verdict_shown = refl;
  chosen = (
    least_short (direction_of role) path.chain _ _ ramps.minimal_up ramps.minimal_down by.minimal_up by.minimal_down (ltb-true _ _ other),
    last_short (direction_of role) path.chain _ _ ramps.minimal_up ramps.minimal_down by.minimal_up by.minimal_down (ltb-true _ _ other),
    longest_climb path.chain (MayClimb table path.chain) (RefusesToClimb table path.chain) ramps.maximal_up (λ k never. never) (λ k refuses may. may refuses) by.maximal_up,
  );
}
printed_by_tests table role neighbour path ramps false false judged by test other = record {
  right = right_from_hops table role neighbour path Valid judged (right_by_tests table (direction_of role) path.chain ramps false false by test other);
  verdict_shown = refl;
  chosen = longest_climb path.chain (Climbs table path.chain) (DoesNotClimb table path.chain) ramps.minimal_up (λ k never. attests _ never) (λ k stops climbs. stops climbs) by.minimal_up;
}

-- the ramps give the right verdict and the printed witness
pub printed_by_ramps : (table : Table) (role : Role) (neighbour : ℕ) (path : Path) (ramps : Ramps) → (IsInvalidAtOnce role neighbour path → ⊥)
    → AreRamps table path.chain ramps
    → IsPrinted table role neighbour path (verdict_by_ramps (direction_of role) (length path.chain) ramps) (witness_by_ramps (direction_of role) (length path.chain) ramps)
printed_by_ramps table role neighbour path ramps judged are =
    printed_by_tests table role neighbour path ramps (nat_lt (reach (direction_of role) ramps.maximal_up ramps.maximal_down) (length path.chain)) (nat_lt (reach (direction_of role) ramps.minimal_up ramps.minimal_down) (length path.chain)) judged
    (AreRamps-Reaches table path.chain ramps (has_hops role neighbour path judged) are) refl refl

-- the witness of an empty path
printed_empty : (table : Table) (role : Role) (neighbour : ℕ) (path : Path) → path.chain ≡ [] → IsPrinted table role neighbour path Invalid Empty
printed_empty table role neighbour path none = record { right = inl (inl none); verdict_shown = refl; chosen = none }

-- an AS_SET
printed_set : (table : Table) (role : Role) (neighbour : ℕ) (path : Path) → (path.chain ≡ [] → ⊥) → path.set ≡ true
    → IsPrinted table role neighbour path Invalid Set
printed_set table role neighbour path some set = record { right = inl (inr (inl set)); verdict_shown = refl; chosen = (some, set) }

-- another neighbour
printed_neighbour : (table : Table) (role : Role) (neighbour : ℕ) (path : Path) → (path.chain ≡ [] → ⊥) → (path.set ≡ true → ⊥)
    → tests_neighbour role ≡ true → (EndsAt path.chain neighbour → ⊥) → IsPrinted table role neighbour path Invalid Neighbour
printed_neighbour table role neighbour path some no_set tested other = record { right = inl (inr (inr (tested, other))); verdict_shown = refl; chosen = (some, no_set, tested, other) }

-- a case with its right verdict and printed witness
abbrev pub Found : Table → Role → ℕ → Path → Type 0
Found table role neighbour path = (v : Verdict) × (w : Witness) × IsPrinted table role neighbour path v w

-- where hops decide there is a printed witness
found_by_ramps : (table : Table) (role : Role) (neighbour : ℕ) (path : Path) → (IsInvalidAtOnce role neighbour path → ⊥)
    → Found table role neighbour path
found_by_ramps table role neighbour path judged =
    let by : (ramps : Ramps) × AreRamps table path.chain ramps = some_ramps table path.chain (has_hops role neighbour path judged) in
    (verdict_by_ramps (direction_of role) (length path.chain) by.0, witness_by_ramps (direction_of role) (length path.chain) by.0, printed_by_ramps table role neighbour path by.0 judged by.1)

-- there is one in each case
pub some_printed : (table : Table) (role : Role) (neighbour : ℕ) (path : Path) → Found table role neighbour path
some_printed table role neighbour path =
    elim (decided_empty path.chain) [
      | inl none ↦ (Invalid, Empty, printed_empty table role neighbour path none)
      | inr some ↦ elim (decided_true path.set) [
        | inl set ↦ (Invalid, Set, printed_set table role neighbour path some set)
        | inr no_set ↦ elim (decided_true (tests_neighbour role)) [
          | inl tested ↦ elim (decided_some_is (slice_get path.chain (length path.chain - 1)) neighbour) [
            | inl same ↦ found_by_ramps table role neighbour path (elim [ inl none ↦ some none | inr further ↦ elim further [ inl set ↦ no_set set | inr other ↦ other.1 same ] ])
            | inr other ↦ (Invalid, Neighbour, printed_neighbour table role neighbour path some no_set tested other)
          ]
          | inr untested ↦ found_by_ramps table role neighbour path (elim [ inl none ↦ some none | inr further ↦ elim further [ inl set ↦ no_set set | inr other ↦ untested other.0 ] ])
        ]
      ]
    ]

-- two least hops are one
least_same : (chain : List ℕ) (does : ℕ → Type 0) (i j : ℕ) → IsLeastHop chain does i → IsLeastHop chain does j → i ≡ j
least_same chain does i j one other = omega (arith, one.least j other.hop, other.least i one.hop)

-- and so are two last ones
last_same : (direction : Direction) (chain : List ℕ) (does : ℕ → Type 0) (i j : Option ℕ) → IsLastHop direction chain does i
    → IsLastHop direction chain does j → i ≡ j
last_same Up chain does i j one other = one ∙ sym other
last_same Down chain does None j one other = absurd one
last_same Down chain does (Some i) None one other = absurd other
last_same Down chain does (Some i) (Some j) one other =
    let same : i ≡ j = omega (arith, one.greatest j other.hop, other.greatest i one.hop) in ap Some same

-- no climb is longer than the longest
climbs_at_most : (chain : List ℕ) (climbs : ℕ → Type 0) (l other : Labelling) → IsLongestClimb chain climbs l → IsLongestClimb chain climbs other
    → (l.climbs < other.climbs) ⊎ (other.climbs ≤ l.climbs) → other.climbs ≤ l.climbs
climbs_at_most chain climbs l other one two (inl more) = absurd (one.longest (omega (arith, two.each_hop)) (two.run l.climbs more))
climbs_at_most chain climbs l other one two (inr less) = less

-- longest climbs have the same free hop
free_same : (chain : List ℕ) (climbs : ℕ → Type 0) (l other : Labelling) → IsLongestClimb chain climbs l → IsLongestClimb chain climbs other
    → l.climbs ≡ other.climbs → (l.climbs + 1 < length chain) ⊎ (length chain ≤ l.climbs + 1) → l.free ≡ other.free
free_same chain climbs l other one two same (inl left) = one.free left ∙ sym (two.free (omega (arith, same)))
free_same chain climbs l other one two same (inr all) = one.no_free (omega (arith, one.each_hop)) ∙ sym (two.no_free (omega (arith, same, two.each_hop)))

-- two labellings are one
record Same (l other : Labelling) : Type 0 where
  climbs : l.climbs ≡ other.climbs
  free : l.free ≡ other.free
  descents : l.descents ≡ other.descents

-- there is one longest climb
labelling_same : (chain : List ℕ) (climbs : ℕ → Type 0) (l other : Labelling) → IsLongestClimb chain climbs l → IsLongestClimb chain climbs other
    → Same l other
labelling_same chain climbs l other one two =
    let less : other.climbs ≤ l.climbs = climbs_at_most chain climbs l other one two (cases_lt l.climbs other.climbs) in
    let more : l.climbs ≤ other.climbs = climbs_at_most chain climbs other l two one (cases_lt other.climbs l.climbs) in
    let same : l.climbs ≡ other.climbs = omega arith in
    let frees : l.free ≡ other.free = free_same chain climbs l other one two same (cases_lt (l.climbs + 1) (length chain)) in
    record { climbs = same; free = frees; descents = omega (arith, one.each_hop, two.each_hop) }

-- one witness is printed for one verdict
pub chosen_same : (table : Table) (role : Role) (neighbour : ℕ) (path : Path) (w also : Witness) → shown_by w ≡ shown_by also
    → IsChosen table role neighbour path w → IsChosen table role neighbour path also → w ≡ also
chosen_same table role neighbour path Empty Empty same one two = refl
chosen_same table role neighbour path Empty Set same one two = absurd (two.0 one)
chosen_same table role neighbour path Empty Neighbour same one two = absurd (two.0 one)
chosen_same table role neighbour path Empty (Blocked i j) same one two = absurd (two.0 (inl one))
chosen_same table role neighbour path Set Empty same one two = absurd (one.0 two)
chosen_same table role neighbour path Set Set same one two = refl
chosen_same table role neighbour path Set Neighbour same one two = absurd (two.1 one.1)
chosen_same table role neighbour path Set (Blocked i j) same one two = absurd (two.0 (inr (inl one.1)))
chosen_same table role neighbour path Neighbour Empty same one two = absurd (one.0 two)
chosen_same table role neighbour path Neighbour Set same one two = absurd (one.1 two.1)
chosen_same table role neighbour path Neighbour Neighbour same one two = refl
chosen_same table role neighbour path Neighbour (Blocked i j) same one two = absurd (two.0 (inr (inr (one.2, one.3))))
chosen_same table role neighbour path (Blocked i j) Empty same one two = absurd (one.0 (inl two))
chosen_same table role neighbour path (Blocked i j) Set same one two = absurd (one.0 (inr (inl two.1)))
chosen_same table role neighbour path (Blocked i j) Neighbour same one two = absurd (one.0 (inr (inr (two.2, two.3))))
chosen_same table role neighbour path (Blocked i j) (Blocked m n) same one two =
    let first : i ≡ m = least_same path.chain _ i m one.1 two.1 in
    let last : j ≡ n = last_same (direction_of role) path.chain _ j n one.2 two.2 in
    cc
chosen_same table role neighbour path (ByLabelling c f d) (ByLabelling p q r) same one two =
    let all : Same (labelling c f d) (labelling p q r) = labelling_same path.chain _ (labelling c f d) (labelling p q r) one two in
    let x : c ≡ p = all.climbs in
    let y : f ≡ q = all.free in
    let z : d ≡ r = all.descents in
    cc
chosen_same table role neighbour path (Unsettled i j c f d) (Unsettled m n p q r) same one two =
    let first : i ≡ m = least_same path.chain _ i m one.0 two.0 in
    let last : j ≡ n = last_same (direction_of role) path.chain _ j n one.1 two.1 in
    let all : Same (labelling c f d) (labelling p q r) = labelling_same path.chain _ (labelling c f d) (labelling p q r) one.2 two.2 in
    let x : c ≡ p = all.climbs in
    let y : f ≡ q = all.free in
    let z : d ≡ r = all.descents in
    cc
chosen_same table role neighbour path w also same one two = absurd (cc)
