-- What was gathered of all pairs is tallied.
use Rattle.std.proofs.Common.{◌≡◌, ◌↔◌, ℕ, zero, suc, ◌<◌, ◌≤◌, ◌&&◌, Bool, true, false, List, [], refl, ap, sym, ◌∙◌, subst, arith}
use Rattle.std.specs.Prelude.{Contains, IsSome}
use Rattle.std.specs.FinMap as fin
use Rattle.std.specs.Cmp.{IsTotalOrder, eq_by_cmp_equiv}
use Rattle.std.specs.List.{count_by}
use Rattle.std.specs.List.Sorted.{IsStrictlySortedBy}
use Rattle.std.specs.Map.{keys_of}
use Rattle.std.specs.declared.cmp.Ordering.{Ordering}
use Rattle.std.specs.declared.option.Option.{Option}
use Rattle.std.specs.declared.option.Option.TheVariants.{Some}
use Rattle.std.proofs.lemmas.List.{append-nil}
use Rattle.std.proofs.lemmas.List.Elements.{All-contains, All-contains_itself, All-weaker, recursion_from_All}
use Rattle.std.proofs.lemmas.Map.Keys.{IsDistinct-from_sorted}
use Rattle.std.proofs.lemmas.Map.Views.{Contains-keys_from_lookup, lookup-from_Contains}
use Rattle.std.proofs.lemmas.Map.Lookups.{CmpEqualImpliesEq}
use Rattle.path_model.specs.declared.key.Key.{Key}
use Rattle.path_model.specs.Trail.{Path}
use Rattle.rib_store.specs.Pairs.{ArePairs, IsPaired, Paired, has_pair, pair_of}
use Rattle.rib_store.specs.State.{State}
use Rattle.rib_store.proofs.PairLemmas.{pair_decides}
use Rattle.listings.specs.declared.tally.Tally.{Tally}
use Rattle.listings.specs.Tallies.{AreTallied, IsPairWith, IsRouteWith, IsTally}
use Rattle.listings.specs.TallySteps.{tally_at}
use Rattle.listings.proofs.TallyCountLemmas.{HasShown, any_hit, any_member, count_within, in_map, member_any, number_by, some_counted, some_member}
use Rattle.listings.proofs.TallyGatherLemmas.{Gathered, tallied}
use Rattle.listings.proofs.TallyHitLemmas.{entries_apart, entry_route, hits, paths_of, route_entry, routes_hit, routes_of}
use Rattle.listings.proofs.TallyTestLemmas.{same_by}

both_true : (a b : Bool) → a ≡ true → b ≡ true → (a && b) ≡ true
both_true a b p q = rw p q

first_true : (a b : Bool) → (a && b) ≡ true → a ≡ true
first_true true b e = refl
first_true false b e = e

second_true : (a b : Bool) → (a && b) ≡ true → b ≡ true
second_true true b e = e
second_true false b e = absurd cc

-- a tally that there is
pub record IsMade (routes n : ℕ) (tally : Tally) : Type 0 where
  pub some : 0 < n
  pub routes_are : tally.routes ≡ routes
  pub paths_are : tally.paths ≡ n

tallied_made : (routes n : ℕ) (tally : Tally) → tallied routes n ≡ Some tally → IsMade routes n tally
tallied_made routes zero tally e = absurd cc
tallied_made routes (suc n) tally e =
    let made : Tally = record { routes = routes; paths = suc n } in
    let same : made ≡ tally = cc in
    record { some = omega arith; routes_are = ap (λ (t : Tally). t.routes) (sym same); paths_are = ap (λ (t : Tally). t.paths) (sym same) }

tallied_some : (routes n : ℕ) → 0 < n → IsSome (tallied routes n)
tallied_some routes zero some = absurd (omega (arith, some))
tallied_some routes (suc n) some = refl

-- the test tells of a pair of the state whether its path has the key
abbrev pub Tells : {K : Type 0} → State → (K → ℕ → Path → Type 0) → K → (Paired → Bool) → Type 0
Tells state Has key test = (p : Paired) → IsPaired state p → (test p ≡ true) ↔ Has key p.asn p.standing.path

module _ {K : Type 0} (Has : K → ℕ → Path → Type 0) (state : State) (all : List Paired) (are : ArePairs state all) (key : K) (test : Paired → Bool)
    (tells : Tells state Has key test) where
  is_paired : (p : Paired) → Contains all p → IsPaired state p
  is_paired p there = All-contains (IsPaired state) all p are.each there

  -- a pair that passes has the key,
  pass_has : (p : Paired) → Contains all p → test p ≡ true → Has key p.asn p.standing.path
  pass_has p there passes = (tells p (is_paired p there)).0 passes

  has_pass : (p : Paired) → Contains all p → Has key p.asn p.standing.path → test p ≡ true
  has_pass p there has = (tells p (is_paired p there)).1 has

  -- the pair of a route that is so
  record HasPair (asn : ℕ) (path : Path) : Type 0 where
    pair : Paired
    contained : Contains all pair
    passes : test pair ≡ true
    same : pair_of pair ≡ (asn, path)

  pair_for : (route : Key) (path : Path) → fin.get state.routes route ≡ Some path → Has key route.peer.asn path → HasPair route.peer.asn path
  pair_for route path is has =
      let found : (p : Paired) × Contains all p × (pair_of p ≡ (route.peer.asn, path)) = in_map pair_of all (route.peer.asn, path) (are.all route path is) in
      record {
        pair = found.0;
        contained = found.1;
        passes = has_pass found.0 found.1 (subst (λ (q : ℕ × Path). Has key q.0 q.1) (sym found.2) has);
        same = found.2;
      }

  -- ---- the routes

  route_sound : (route : Key) → HasShown (λ (e : Key × Path). e.0) (any_hit test hits all) (fin.entries state.routes) route
      → IsRouteWith Has state key route
  route_sound route has =
      let found : (p : Paired) × Contains all p × ((test p && hits p has.member) ≡ true) = any_member (λ (p : Paired). test p && hits p has.member) all has.passes in
      let passes : test found.0 ≡ true = first_true _ _ found.2 in
      let hit = (pair_decides found.0.asn found.0.standing.path has.member).0 (second_true (test found.0) (hits found.0 has.member) found.2) in
      let same : pair_of found.0 ≡ (has.member.0.peer.asn, has.member.1) = λ i. (sym hit.0 i, sym hit.1 i) in
      subst (λ (k : Key). IsRouteWith Has state key k) has.shown (record {
        path = has.member.1;
        is = entry_route state.routes has.member.0 has.member.1 has.contained;
        has = subst (λ (q : ℕ × Path). Has key q.0 q.1) same (pass_has found.0 found.1 passes);
      })

  route_whole : (route : Key) → IsRouteWith Has state key route
      → HasShown (λ (e : Key × Path). e.0) (any_hit test hits all) (fin.entries state.routes) route
  route_whole route with =
      let has : HasPair route.peer.asn with.path = pair_for route with.path with.is with.has in
      let asn : route.peer.asn ≡ has.pair.asn = ap (λ (q : ℕ × Path). q.0) (sym has.same) in
      let path : with.path ≡ has.pair.standing.path = ap (λ (q : ℕ × Path). q.1) (sym has.same) in
      let hit : hits has.pair (route, with.path) ≡ true = (pair_decides has.pair.asn has.pair.standing.path (route, with.path)).1 (asn, path) in
      record {
        member = (route, with.path);
        contained = route_entry state.routes route with.path with.is;
        passes = member_any (λ (p : Paired). test p && hits p (route, with.path)) all has.pair has.contained (both_true _ _ has.passes hit);
        shown = refl;
      }

  -- ---- the pairs

  pair_sound : (pair : ℕ × Path) → HasShown pair_of test all pair → IsPairWith Has state key pair
  pair_sound pair has =
      let paired : IsPaired state has.member = is_paired has.member has.contained in
      let counted : 0 < count_by (has_pair has.member.asn has.member.standing.path) (fin.entries state.routes) = omega (arith, paired.counted, paired.some) in
      let found : (e : Key × Path) × Contains (fin.entries state.routes) e × (has_pair has.member.asn has.member.standing.path e ≡ true) =
      some_member (has_pair has.member.asn has.member.standing.path) (fin.entries state.routes) counted in
      let hit = (pair_decides has.member.asn has.member.standing.path found.0).0 found.2 in
      subst (λ (q : ℕ × Path). IsPairWith Has state key q) has.shown (record {
        route = found.0.0;
        asn = hit.0;
        is = entry_route state.routes found.0.0 found.0.1 found.1 ∙ ap Some hit.1;
        has = pass_has has.member has.contained has.passes;
      })

  pair_whole : (pair : ℕ × Path) → IsPairWith Has state key pair → HasShown pair_of test all pair
  pair_whole pair with =
      let has : HasPair with.route.peer.asn pair.1 = pair_for with.route pair.1 with.is (subst (λ (a : ℕ). Has key a pair.1) (sym with.asn) with.has) in
      record { member = has.pair; contained = has.contained; passes = has.passes; shown = has.same ∙ λ i. (with.asn i, pair.1) }

  -- ---- their numbers

  paths_within : paths_of test all ≤ routes_of test all
  paths_within = count_within test hits (λ (p : Paired). p.routes) all
      (recursion_from_All (λ (p : Paired). 0 < p.routes) all (All-weaker (IsPaired state) (λ (p : Paired). 0 < p.routes) (λ p paired. paired.some) all are.each))

  pub is_tally : (tally : Tally) → IsMade (routes_of test all) (paths_of test all) tally → IsTally Has state (key, tally)
  is_tally tally made = record {
    some = omega (arith, made.some, made.routes_are, paths_within);
    routes = number_by (λ (e : Key × Path). e.0) (any_hit test hits all) (IsRouteWith Has state key) (fin.entries state.routes) tally.routes
        (entries_apart state.routes) route_sound route_whole (made.routes_are ∙ routes_hit state test all are.apart are.each);
    paths = number_by pair_of test (IsPairWith Has state key) all tally.paths are.apart pair_sound pair_whole made.paths_are;
  }

  -- a route that is so is counted
  pub route_counted : (route : Key) → IsRouteWith Has state key route → 0 < paths_of test all
  route_counted route with =
      let has : HasPair route.peer.asn with.path = pair_for route with.path with.is with.has in
      some_counted test all has.pair has.contained has.passes

module _ {K : Type 0} {R : K → K → Ordering} (total : IsTotalOrder R) (exact : CmpEqualImpliesEq R) (Has : K → ℕ → Path → Type 0) (test : K → Paired → Bool)
    (state : State) (tells : (key : K) → Tells state Has key (test key)) where
  -- where each key has the tally of all pairs that are noted for it, if there is one
  pub are_tallied : (all : List Paired) (now : List (K × Tally)) → ArePairs state all
      → ((key : K) → tally_at R now key ≡ tallied (routes_of (test key) all) (paths_of (test key) all)) → IsStrictlySortedBy R (keys_of now)
      → AreTallied R Has state now
  are_tallied all now are kept sorted = record {
    ascending = sorted;
    each = λ k d within. row_tally _ (All-contains_itself now k d within);
    all = λ key route with.
        let some : IsSome (tally_at R now key) = subst (λ (t : Option Tally). IsSome t) (sym (kept key))
        (tallied_some _ _ (route_counted Has state all are key (test key) (tells key) route with)) in
        Contains-keys_from_lookup (same_by total exact) key now some;
  } where
    row_tally : (row : K × Tally) → Contains now row → IsTally Has state row
    row_tally row there = is_tally Has state all are row.0 (test row.0) (tells row.0) row.1 (tallied_made _ _ row.1
        (sym (kept row.0) ∙ lookup-from_Contains (eq_by_cmp_equiv total) row.0 row.1 now (IsDistinct-from_sorted R (keys_of now) sorted) there))

  -- what was gathered of all pairs
  pub gathered_tallied : (now : List (K × Tally)) → Gathered R test state [] now → IsStrictlySortedBy R (keys_of now) → AreTallied R Has state now
  gathered_tallied now gathered sorted =
      let done : gathered.done ≡ gathered.all = sym (append-nil gathered.done) ∙ gathered.parts in
      are_tallied gathered.all now gathered.are
      (λ key. gathered.kept key ∙ ap (λ (ps : List Paired). tallied (routes_of (test key) ps) (paths_of (test key) ps)) done) sorted
