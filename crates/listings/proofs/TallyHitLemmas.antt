-- The pairs of a peer AS and a path that pass a test, and the routes that have them.
use Rattle.std.proofs.Common.{◌≡◌, ◌≢◌, ℕ, ◌||◌, Bool, true, false, cond, List, [], ◌∷◌, refl, ap, sym, ◌∙◌, subst}
use Rattle.std.specs.Prelude.{map, Contains, Some}
use Rattle.std.specs.FinMap as fin
use Rattle.std.specs.Cmp.{eq_by_cmp_equiv, tied_itself}
use Rattle.std.specs.List.{All, count_by, list_any, sum_by}
use Rattle.std.specs.List.Sorted.{IsStrictlySortedBy}
use Rattle.std.specs.Map.{keys_of}
use Rattle.std.specs.declared.cmp.Ordering.TheVariants.{Less, Equal}
use Rattle.std.proofs.lemmas.List.Elements.{All-from_recursion, All-head, All-tail, All-weaker, recursion_from_All}
use Rattle.std.proofs.lemmas.Map.Keys.{IsDistinct-from_sorted, sorted_head, sorted_tail}
use Rattle.std.proofs.lemmas.Map.Views.{Contains-from_lookup, lookup-from_Contains}
use Rattle.path_model.specs.declared.key.Key.{Key}
use Rattle.path_model.specs.Authority.{Table}
use Rattle.path_model.specs.Key.{key_cmp}
use Rattle.path_model.specs.Order.{key_total}
use Rattle.path_model.specs.PrintedWitness.{IsPrinted}
use Rattle.path_model.specs.Roles.{role_of}
use Rattle.path_model.specs.Routes.{Routes}
use Rattle.path_model.specs.Trail.{Path}
use Rattle.attestations.specs.ComputedTable.{table_of}
use Rattle.attestations.specs.CurrentTable.{HasOneTable, IsCurrentTable, Parts}
use Rattle.attestations.proofs.PartsLemmas.{parts_have_one_table, table_is_current}
use Rattle.shared_cases.specs.Touched.{AreApart}
use Rattle.rib_store.specs.Pairs.{IsPaired, Paired, has_pair, pair_of}
use Rattle.rib_store.specs.State.{State}
use Rattle.rib_store.proofs.KeyLemmas.{find_lookup, same_key, sorted_keys}
use Rattle.rib_store.proofs.PairLemmas.{pair_decides}
use Rattle.listings.proofs.TallyCountLemmas.{AreExclusive, any_hit, sum_hits}

-- ---- entries of the routes

entries_in_order : (routes : Routes) → IsStrictlySortedBy key_cmp (keys_of (fin.entries routes))
entries_in_order routes = sorted_keys (fin.entries routes) (fin.entries_sorted routes)

-- a route is an entry,
pub route_entry : (routes : Routes) (key : Key) (path : Path) → fin.get routes key ≡ Some path → Contains (fin.entries routes) (key, path)
route_entry routes key path route =
    Contains-from_lookup same_key key path (fin.entries routes) (sym (find_lookup (fin.entries routes) key) ∙ sym (fin.get-entries routes key) ∙ route)

-- and an entry is a route
pub entry_route : (routes : Routes) (key : Key) (path : Path) → Contains (fin.entries routes) (key, path) → fin.get routes key ≡ Some path
entry_route routes key path there = fin.get-entries routes key ∙ find_lookup (fin.entries routes) key
    ∙ lookup-from_Contains (eq_by_cmp_equiv key_total) key path (fin.entries routes) (IsDistinct-from_sorted key_cmp (keys_of (fin.entries routes)) (entries_in_order routes)) there

less_other : (x y : Key) → key_cmp x y ≡ Less → x ≢ y
less_other x y less same =
    let tied : key_cmp x y ≡ Equal = ap (key_cmp x) (sym same) ∙ tied_itself key_total x in
    absurd cc

keys_apart : (ks : List Key) → IsStrictlySortedBy key_cmp ks → AreApart ks
keys_apart [] sorted = tt
keys_apart (k ∷ ks) sorted = (
  All-weaker (λ (q : Key). key_cmp k q ≡ Less) (λ (q : Key). k ≢ q) (less_other k) ks (All-from_recursion (λ (q : Key). key_cmp k q ≡ Less) ks (sorted_head key_cmp k ks sorted)),
  keys_apart ks (sorted_tail key_cmp k ks sorted),
)

pub entries_apart : (routes : Routes) → AreApart (map (λ (e : Key × Path). e.0) (fin.entries routes))
entries_apart routes = keys_apart (keys_of (fin.entries routes)) (entries_in_order routes)

-- ---- how a pair stands

-- each current table is the computed one
pub same_table : (parts : Parts) (table : Table) → IsCurrentTable parts table → table ≡ table_of parts
same_table parts table current =
    let one : HasOneTable parts = parts_have_one_table parts in
    λ i x. (one.only table current x ∙ sym (one.only (table_of parts) (table_is_current parts) x)) i

-- so the pair's verdict and witness are those of the computed one
pub printed_here : (state : State) (p : Paired) → IsPaired state p
    → IsPrinted (table_of state.parts) (role_of state.roles p.asn) p.asn p.standing.path p.standing.verdict p.standing.witness
printed_here state p paired =
    subst (λ (t : Table). IsPrinted t (role_of state.roles p.asn) p.asn p.standing.path p.standing.verdict p.standing.witness)
    (same_table state.parts paired.stands.table paired.stands.current) paired.stands.printed

-- ---- the routes of the pairs that pass a test

-- how many routes, and how many pairs, pass
abbrev pub routes_of : (Paired → Bool) → List Paired → ℕ
routes_of test ps = sum_by (λ p. cond (test p) p.routes 0) ps

abbrev pub paths_of : (Paired → Bool) → List Paired → ℕ
paths_of test ps = count_by test ps

-- the route has the pair
abbrev pub hits : Paired → Key × Path → Bool
hits p route = has_pair p.asn p.standing.path route

-- a route that has a pair has no other one
misses : (p : Paired) (ps : List Paired) → All (λ q. pair_of p ≢ q) (map pair_of ps) → (route : Key × Path) → hits p route ≡ true
    → list_any (λ q. hits q route) ps ≡ false
misses p [] apart route hit = refl
misses p (q ∷ qs) apart route hit = by (hits q route) refl (misses p qs (All-tail (λ (r : ℕ × Path). pair_of p ≢ r) (pair_of q) (map pair_of qs) apart) route hit) where
  clash : hits q route ≡ true → ⊥
  clash e =
      let one = (pair_decides p.asn p.standing.path route).0 hit in
      let other = (pair_decides q.asn q.standing.path route).0 e in
      let same : pair_of p ≡ pair_of q = λ i. ((sym one.0 ∙ other.0) i, (sym one.1 ∙ other.1) i) in
      All-head (λ (r : ℕ × Path). pair_of p ≢ r) (pair_of q) (map pair_of qs) apart same

  by : (b : Bool) → hits q route ≡ b → list_any (λ r. hits r route) qs ≡ false → (hits q route || list_any (λ r. hits r route) qs) ≡ false
  by true e none = absurd (clash e)
  by false e none = rw e none

exclusive : (ps : List Paired) → AreApart (map pair_of ps) → AreExclusive hits ps
exclusive [] apart = tt
exclusive (p ∷ ps) apart = (misses p ps apart.0, exclusive ps apart.1)

-- what the pairs count together is the number of the routes that have one of them that passes
pub routes_hit : (state : State) (test : Paired → Bool) (ps : List Paired) → AreApart (map pair_of ps) → All (IsPaired state) ps
    → routes_of test ps ≡ count_by (any_hit test hits ps) (fin.entries state.routes)
routes_hit state test ps apart each = sum_hits test hits (λ (p : Paired). p.routes) (fin.entries state.routes) ps (exclusive ps apart)
    (recursion_from_All (λ (p : Paired). p.routes ≡ count_by (hits p) (fin.entries state.routes)) ps
    (All-weaker (IsPaired state) (λ (p : Paired). p.routes ≡ count_by (hits p) (fin.entries state.routes)) (λ p paired. paired.counted) ps each))
