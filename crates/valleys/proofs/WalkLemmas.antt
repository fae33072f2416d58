-- What a walk past one more hop finds.
use Rattle.std.proofs.Common.{◌≡◌, ◌↔◌, ℕ, ◌+◌, ◌<◌, ◌++◌, ◌⊎◌, inl, inr, List, [], ◌∷◌, length, refl, sym, ap, subst, arith}
use Rattle.std.specs.List.{Contains}
use Rattle.std.specs.declared.option.Option.{Option}
use Rattle.std.specs.declared.option.Option.TheVariants.{Some, None}
use Rattle.std.proofs.lemmas.List.{append-nil}
use Rattle.std.proofs.lemmas.List.Elements.{All-cons, All-contains, All-nil, Contains-append_cases, Contains-append_left, Contains-append_right}
use Rattle.path_model.specs.declared.authority.Authority.{Authority}
use Rattle.path_model.specs.declared.authority.Authority.TheVariants.{Silent, Refuses, Provides}
use Rattle.path_model.specs.declared.role.Direction.{Direction}
use Rattle.path_model.specs.declared.role.Direction.TheVariants.{Up, Down}
use Rattle.path_model.specs.Authority.{Table}
use Rattle.path_model.specs.Labelling.{RefusesToClimb, RefusesToDescend}
use Rattle.path_model.specs.Witness.{IsHop}
use Rattle.valleys.specs.declared.valley.Valley.{Valley}
use Rattle.valleys.specs.Valleys.{HasValley, IsOpenUntil, ases_of}
use Rattle.valleys.specs.Walk.{HasValleyBelow, IsBehind, IsPassed, climb_at, closed, closed_by, descent_at, exported, opened_by, still_open}
use Rattle.valleys.proofs.OpenLemmas.{climb_refused, descent_refused, open_less, open_more, open_new, same_or_below}

-- ---- which hop is open

-- none before the first hop
pub passed_none : (table : Table) (chain : List ℕ) → IsPassed table chain 1 None []
passed_none table chain = record {
  is_open = λ i. ((λ e. absurd cc), λ is. absurd (omega (arith, is.before, is.opens.number)));
  valleys = λ v. ((λ h. absurd (omega (arith, h.1))), λ has. absurd (omega (arith, has.below, has.ends.number)));
}

-- where the hop refuses to climb, it is the open one
opened_here : (table : Table) (chain : List ℕ) (hop i : ℕ) → IsHop chain (RefusesToClimb table chain) hop
    → (Some hop ≡ Some i) ↔ IsOpenUntil table chain i (hop + 1)
opened_here table chain hop i climb = (
  (λ e. let same : hop ≡ i = cc in subst (λ (k : ℕ). IsOpenUntil table chain k (hop + 1)) same (open_new table chain hop climb)),
  λ is. elim (open_less table chain i hop is) [
    | inl same ↦ ap Some (sym same)
    | inr less ↦ absurd (is.no_climb hop less.before (omega arith) climb)
  ],
)

-- where it only refuses to descend, none is
opened_no_more : (table : Table) (chain : List ℕ) (hop i : ℕ) → (IsHop chain (RefusesToClimb table chain) hop → ⊥)
    → IsHop chain (RefusesToDescend table chain) hop → (None ≡ Some i) ↔ IsOpenUntil table chain i (hop + 1)
opened_no_more table chain hop i no_climb descent = (
  (λ e. absurd cc),
  λ is. elim (open_less table chain i hop is) [
    | inl same ↦ absurd (no_climb (rw same at is.opens))
    | inr less ↦ absurd (is.no_descent hop less.before (omega arith) descent)
  ],
)

-- where it refuses neither, the same is as before
opened_still : (table : Table) (chain : List ℕ) (hop i : ℕ) (opened : Option ℕ) → (IsHop chain (RefusesToClimb table chain) hop → ⊥)
    → (IsHop chain (RefusesToDescend table chain) hop → ⊥) → (opened ≡ Some i) ↔ IsOpenUntil table chain i hop
    → (opened ≡ Some i) ↔ IsOpenUntil table chain i (hop + 1)
opened_still table chain hop i opened no_climb no_descent before = (
  (λ e. open_more table chain i hop (before.0 e) no_climb no_descent),
  λ is. elim (open_less table chain i hop is) [
    | inl same ↦ absurd (no_climb (rw same at is.opens))
    | inr less ↦ before.1 less
  ],
)

-- what the two ASes of the hop attest tells which hop is open behind it
opened_next : (table : Table) (chain : List ℕ) (hop i : ℕ) (opened : Option ℕ) (climb descent : Authority)
    → (climb ≡ Refuses) ↔ IsHop chain (RefusesToClimb table chain) hop → (descent ≡ Refuses) ↔ IsHop chain (RefusesToDescend table chain) hop
    → (opened ≡ Some i) ↔ IsOpenUntil table chain i hop
    → (opened_by climb hop (still_open descent opened) ≡ Some i) ↔ IsOpenUntil table chain i (hop + 1)
opened_next table chain hop i opened Refuses descent climbs descends before = opened_here table chain hop i (climbs.0 refl)
opened_next table chain hop i opened Silent Refuses climbs descends before = opened_no_more table chain hop i (λ is. absurd (cc (climbs.1 is))) (descends.0 refl)
opened_next table chain hop i opened Provides Refuses climbs descends before = opened_no_more table chain hop i (λ is. absurd (cc (climbs.1 is))) (descends.0 refl)
opened_next table chain hop i opened Silent Silent climbs descends before =
    opened_still table chain hop i opened (λ is. absurd (cc (climbs.1 is))) (λ is. absurd (cc (descends.1 is))) before
opened_next table chain hop i opened Silent Provides climbs descends before =
    opened_still table chain hop i opened (λ is. absurd (cc (climbs.1 is))) (λ is. absurd (cc (descends.1 is))) before
opened_next table chain hop i opened Provides Silent climbs descends before =
    opened_still table chain hop i opened (λ is. absurd (cc (climbs.1 is))) (λ is. absurd (cc (descends.1 is))) before
opened_next table chain hop i opened Provides Provides climbs descends before =
    opened_still table chain hop i opened (λ is. absurd (cc (climbs.1 is))) (λ is. absurd (cc (descends.1 is))) before

-- an open hop stands before the next one
pub open_behind : (table : Table) (chain : List ℕ) (hop : ℕ) (opened : Option ℕ) (found : List Valley) → IsPassed table chain hop opened found
    → IsBehind opened hop
open_behind table chain hop None found passed = tt
open_behind table chain hop (Some i) found passed =
    let is : IsOpenUntil table chain i hop = (passed.is_open i).0 refl in
    (omega (arith, is.opens.number), is.before)

-- ---- which valleys were found

-- a list of one has this one
one_is : (x v : Valley) → Contains (x ∷ []) v → v ≡ x
one_is x v h = All-contains (λ (y : Valley). y ≡ x) (x ∷ []) v (All-cons (λ (y : Valley). y ≡ x) x [] refl (All-nil (λ (y : Valley). y ≡ x))) h

-- the valley that ends at a hop is that of the open one
closed_is : (chain : List ℕ) (opened : Option ℕ) (hop : ℕ) (v : Valley) → Contains (closed chain opened hop) v
    → (i : ℕ) × (opened ≡ Some i) × (v ≡ ases_of chain i hop)
closed_is chain None hop v h = absurd (omega (arith, h.1))
closed_is chain (Some i) hop v h = (i, refl, one_is (ases_of chain i hop) v h)

closed_has : (chain : List ℕ) (opened : Option ℕ) (hop i : ℕ) (v : Valley) → opened ≡ Some i → v ≡ ases_of chain i hop
    → Contains (closed chain opened hop) v
closed_has chain opened hop i v is ases = rw (is, ases) (0, omega arith, refl)

closed_by_is : (chain : List ℕ) (opened : Option ℕ) (hop : ℕ) (descent : Authority) (v : Valley) → Contains (closed_by descent chain opened hop) v
    → (descent ≡ Refuses) × ((i : ℕ) × (opened ≡ Some i) × (v ≡ ases_of chain i hop))
closed_by_is chain opened hop Refuses v h = (refl, closed_is chain opened hop v h)
closed_by_is chain opened hop Silent v h = absurd (omega (arith, h.1))
closed_by_is chain opened hop Provides v h = absurd (omega (arith, h.1))

closed_by_has : (chain : List ℕ) (opened : Option ℕ) (hop i : ℕ) (descent : Authority) (v : Valley) → descent ≡ Refuses → opened ≡ Some i
    → v ≡ ases_of chain i hop → Contains (closed_by descent chain opened hop) v
closed_by_has chain opened hop i descent v refuses is ases = rw refuses (closed_has chain opened hop i v is ases)

-- a valley that ends below a hop ends below the next one
below_more : (table : Table) (chain : List ℕ) (hop : ℕ) (v : Valley) → HasValleyBelow table chain hop v → HasValleyBelow table chain (hop + 1) v
below_more table chain hop v has = record { i = has.i; j = has.j; below = omega (arith, has.below); opened = has.opened; ends = has.ends; ases = has.ases }

-- the valleys that end below the next hop
valleys_next : (table : Table) (chain : List ℕ) (hop : ℕ) (opened : Option ℕ) (found : List Valley) (v : Valley) → 0 < hop → hop < length chain
    → IsPassed table chain hop opened found
    → Contains (found ++ closed_by (descent_at table chain hop) chain opened hop) v ↔ HasValleyBelow table chain (hop + 1) v
valleys_next table chain hop opened found v some within passed = (
  (λ h. elim (Contains-append_cases found (closed_by (descent_at table chain hop) chain opened hop) v h) [
    | inl old ↦ below_more table chain hop v ((passed.valleys v).0 old)
    | inr new ↦
        let is : (descent_at table chain hop ≡ Refuses) × ((i : ℕ) × (opened ≡ Some i) × (v ≡ ases_of chain i hop)) = closed_by_is chain opened hop (descent_at table chain hop) v new in
        record {
          i = is.1.0;
          j = hop;
          below = omega arith;
          opened = (passed.is_open is.1.0).0 is.1.1;
          ends = (descent_refused table chain hop some within).0 is.0;
          ases = is.1.2;
        }
  ]),
  λ has. elim (same_or_below has.j hop has.below) [
    | inl same ↦ Contains-append_right found (closed_by (descent_at table chain hop) chain opened hop) v (closed_by_has chain opened hop has.i (descent_at table chain hop) v
        ((descent_refused table chain hop some within).1 (rw same at has.ends)) ((passed.is_open has.i).1 (rw same at has.opened)) (rw same at has.ases))
    | inr less ↦ Contains-append_left found (closed_by (descent_at table chain hop) chain opened hop) v ((passed.valleys v).1 (record { i = has.i; j = has.j; below = less; opened = has.opened; ends = has.ends; ases = has.ases }))
  ],
)

-- one more hop is passed
pub passed_more : (table : Table) (chain : List ℕ) (hop : ℕ) (opened next : Option ℕ) (found more : List Valley) → 0 < hop → hop < length chain
    → IsPassed table chain hop opened found → next ≡ opened_by (climb_at table chain hop) hop (still_open (descent_at table chain hop) opened)
    → more ≡ found ++ closed_by (descent_at table chain hop) chain opened hop → IsPassed table chain (hop + 1) next more
passed_more table chain hop opened next found more some within passed is_next is_more = rw (is_next, is_more) (record {
  is_open = λ i. opened_next table chain hop i opened (climb_at table chain hop) (descent_at table chain hop)
      (climb_refused table chain hop some within) (descent_refused table chain hop some within) (passed.is_open i);
  valleys = λ v. valleys_next table chain hop opened found v some within passed;
})

-- behind the last hop all are passed; a chain without ASes has none
pub passed_all : (table : Table) (chain : List ℕ) (hop : ℕ) (opened : Option ℕ) (found : List Valley)
    → (hop ≡ length chain) ⊎ (length chain ≡ 0) → IsPassed table chain hop opened found → IsPassed table chain (length chain) opened found
passed_all table chain hop opened found (inl same) passed = rw same at passed
passed_all table chain hop opened found (inr empty) passed = record {
  is_open = λ i. (
    (λ e. absurd (omega (arith, ((passed.is_open i).0 e).opens.within))),
    λ is. absurd (omega (arith, is.opens.within)),
  );
  valleys = λ v. (
    (λ h. absurd (omega (arith, ((passed.valleys v).0 h).ends.within))),
    λ has. absurd (omega (arith, has.ends.within)),
  );
}

-- ---- the valleys of the whole chain

-- downstream they are those that were found
pub valleys_down : (table : Table) (chain : List ℕ) (opened : Option ℕ) (found : List Valley) (v : Valley)
    → IsPassed table chain (length chain) opened found → Contains found v ↔ HasValley table Down chain v
valleys_down table chain opened found v passed = (
  (λ h.
      let has : HasValleyBelow table chain (length chain) v = (passed.valleys v).0 h in
      record { i = has.i; j = has.j; is = record { opened = has.opened; ends = has.ends }; ases = has.ases }),
  λ has. (passed.valleys v).1 (record { i = has.i; j = has.j; below = has.is.ends.within; opened = has.is.opened; ends = has.is.ends; ases = has.ases }),
)

-- upstream the export to us ends one more where a hop is open
pub valleys_up : (table : Table) (chain : List ℕ) (opened : Option ℕ) (found : List Valley) (v : Valley)
    → IsPassed table chain (length chain) opened found → Contains (found ++ closed chain opened (length chain)) v ↔ HasValley table Up chain v
valleys_up table chain opened found v passed = (
  (λ h. elim (Contains-append_cases found (closed chain opened (length chain)) v h) [
    | inl old ↦
        let has : HasValleyBelow table chain (length chain) v = (passed.valleys v).0 old in
        record { i = has.i; j = has.j; is = record { opened = has.opened; ends = inl has.ends }; ases = has.ases }
    | inr new ↦
        let is : (i : ℕ) × (opened ≡ Some i) × (v ≡ ases_of chain i (length chain)) = closed_is chain opened (length chain) v new in
        record { i = is.0; j = length chain; is = record { opened = (passed.is_open is.0).0 is.1; ends = inr refl }; ases = is.2 }
  ]),
  λ has. elim has.is.ends [
    | inl hop ↦ Contains-append_left found (closed chain opened (length chain)) v ((passed.valleys v).1 (record { i = has.i; j = has.j; below = hop.within; opened = has.is.opened; ends = hop; ases = has.ases }))
    | inr same ↦ Contains-append_right found (closed chain opened (length chain)) v (closed_has chain opened (length chain) has.i v
        ((passed.is_open has.i).1 (rw same at has.is.opened)) (rw same at has.ases))
  ],
)

-- so in either direction
pub valleys_exported : (table : Table) (direction : Direction) (chain : List ℕ) (opened : Option ℕ) (found all : List Valley)
    → IsPassed table chain (length chain) opened found → all ≡ found ++ exported direction chain opened → (v : Valley)
    → Contains all v ↔ HasValley table direction chain v
valleys_exported table Up chain opened found all passed is v = rw is (valleys_up table chain opened found v passed)
valleys_exported table Down chain opened found all passed is v = rw (is, append-nil) (valleys_down table chain opened found v passed)
