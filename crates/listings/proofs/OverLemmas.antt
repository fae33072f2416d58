-- The routes that went over a hop, counted by the cases that have it.
use Rattle.std.proofs.Common.{◌≡◌, ℕ, Bool, true, false, cond, ◌||◌, ◌&&◌, List, [], ◌∷◌, refl, sym, ap, ◌∙◌, arith}
use Rattle.std.specs.Prelude.{Contains}
use Rattle.std.specs.FinMap as fin
use Rattle.std.specs.Cmp.{both_ways, nat_cmp_total, tied_itself}
use Rattle.std.specs.List.{AllByRecursion, count_by, list_any, sum_by}
use Rattle.std.specs.List.Sorted.{IsStrictlySortedBy}
use Rattle.std.specs.Ordering.{nat_cmp}
use Rattle.std.specs.declared.cmp.Ordering.TheVariants.{Less, Equal}
use Rattle.std.specs.declared.option.Option.{Option}
use Rattle.std.specs.declared.option.Option.TheVariants.{Some, None}
use Rattle.std.proofs.lemmas.Bool.{and_from, and_parts}
use Rattle.std.proofs.lemmas.List.Sums.{sum_by-cons}
use Rattle.std.proofs.lemmas.Map.Keys.{sorted_head, sorted_tail}
use Rattle.std.proofs.lemmas.Map.Views.{Contains-from_any, exact_unsigned_eq}
use Rattle.path_model.specs.declared.key.Key.{Key}
use Rattle.path_model.specs.Trail.{Path}
use Rattle.hop_index.specs.Numbers.{has_number}
use Rattle.rib_store.specs.Pairs.{has_pair}
use Rattle.rib_store.specs.Sharing.{AreCasesOf, CountTheirRoutes, CountsItsRoutes}
use Rattle.rib_store.specs.State.{State}
use Rattle.rib_store.proofs.PairLemmas.{pair_decides}
use Rattle.shared_cases.specs.declared.case.StoredCase.{StoredCase}
use Rattle.shared_cases.specs.Cases.{Slots, at, IsStoredAs}
use Rattle.shared_cases.specs.Taking.{users_or}
use Rattle.listings.specs.EachNeighbour.{users_by}
use Rattle.listings.proofs.TallyHitLemmas.{entry_route}
use Rattle.listings.proofs.TallyCountLemmas.{AreExclusive, any_hit, any_member, count_none, in_head, in_tail, member_any, sum_hits}

-- counts by two tests that tell the same of each member
count_same : {A : Type 0} (f g : A → Bool) (xs : List A) → ((x : A) → Contains xs x → f x ≡ g x) → count_by f xs ≡ count_by g xs
count_same f g [] same = refl
count_same {A = A} f g (x ∷ xs) same = omega (
  arith,
  sum_by-cons (λ (y : A). cond (f y) 1 0) x xs,
  sum_by-cons (λ (y : A). cond (g y) 1 0) x xs,
  ap (λ (b : Bool). cond {A = ℕ} b 1 0) (same x (in_head x xs)),
  count_same f g xs (λ y there. same y (in_tail x xs y there)),
)

sum_same : {A : Type 0} (f g : A → ℕ) → ((x : A) → f x ≡ g x) → (xs : List A) → sum_by f xs ≡ sum_by g xs
sum_same f g same [] = refl
sum_same f g same (x ∷ xs) = omega (arith, sum_by-cons f x xs, sum_by-cons g x xs, same x, sum_same f g same xs)

-- whether the route has the case
abbrev has_case : Option StoredCase → Key × Path → Bool
has_case None route = false
has_case (Some c) route = has_pair c.asn c.trail route

case_stored : (c : Option StoredCase) (route : Key × Path) → has_case c route ≡ true → IsStoredAs c route.0.peer.asn route.1
case_stored None route e = let no : ⊥ = cc in absurd no
case_stored (Some c) route e = let same = (pair_decides c.asn c.trail route).0 e in (sym same.0, sym same.1)

stored_case : (c : Option StoredCase) (route : Key × Path) → IsStoredAs c route.0.peer.asn route.1 → has_case c route ≡ true
stored_case None route here = absurd here
stored_case (Some c) route here = (pair_decides c.asn c.trail route).1 (sym here.0, sym here.1)

not_before : (n : ℕ) → nat_cmp n n ≡ Less → ⊥
not_before n less = let tied : nat_cmp n n ≡ Equal = tied_itself nat_cmp_total n in absurd cc

-- whether the routes of a case went so
abbrev pub went_so : (List ℕ → Bool) → Option StoredCase → Bool
went_so way None = false
went_so way (Some c) = way c.trail.chain

module _ (state : State) (cases : Slots) (are : AreCasesOf state cases) (counted : CountTheirRoutes state.routes cases) (way : List ℕ → Bool) where
  abbrev test : ℕ → Bool
  test n = went_so way (at cases n)

  abbrev hits : ℕ → Key × Path → Bool
  hits n route = has_case (at cases n) route

  -- ---- no route is hit twice

  same_case : (m n : ℕ) (route : Key × Path) → hits m route ≡ true → hits n route ≡ true → m ≡ n
  same_case m n route hit also = are.apart m n route.0.peer.asn route.1 (case_stored (at cases m) route hit) (case_stored (at cases n) route also)

  none_more : (m : ℕ) (ns : List ℕ) → AllByRecursion (λ n. nat_cmp m n ≡ Less) ns → (route : Key × Path) → hits m route ≡ true
      → list_any (λ n. hits n route) ns ≡ false
  none_more m [] below route hit = refl
  none_more m (n ∷ ns) below route hit = by (hits n route) refl (none_more m ns below.1 route hit) where
    by : (b : Bool) → hits n route ≡ b → list_any (λ k. hits k route) ns ≡ false → (hits n route || list_any (λ k. hits k route) ns) ≡ false
    by true also none = absurd (not_before m (ap (nat_cmp m) (same_case m n route hit also) ∙ below.0))
    by false other none = rw other none

  exclusive : (ns : List ℕ) → IsStrictlySortedBy nat_cmp ns → AreExclusive hits ns
  exclusive [] sorted = tt
  exclusive (n ∷ ns) sorted = (none_more n ns (sorted_head nat_cmp n ns sorted), exclusive ns (sorted_tail nat_cmp n ns sorted))

  -- ---- each weighs what it hits

  weight_at : (c : Option StoredCase) → CountsItsRoutes state.routes c → users_or c ≡ count_by (has_case c) (fin.entries state.routes)
  weight_at None is = sym (count_none (fin.entries state.routes))
  weight_at (Some c) is = is

  weights : (ns : List ℕ) → AllByRecursion (λ n. users_or (at cases n) ≡ count_by (hits n) (fin.entries state.routes)) ns
  weights [] = tt
  weights (n ∷ ns) = (weight_at (at cases n) (counted n), weights ns)

  -- ---- a route is hit where it went so

  module _ (numbers : List ℕ) (sorted : IsStrictlySortedBy nat_cmp numbers) (whole : (n : ℕ) → went_so way (at cases n) ≡ true → has_number numbers n ≡ true) where
    way_stored : (c : Option StoredCase) (path : Path) (asn : ℕ) → IsStoredAs c asn path → went_so way c ≡ way path.chain
    way_stored None path asn here = absurd here
    way_stored (Some c) path asn here = ap (λ (p : Path). way p.chain) here.1

    went : (route : Key × Path) → any_hit test hits numbers route ≡ true → way route.1.chain ≡ true
    went route hit =
        let found : (n : ℕ) × Contains numbers n × ((test n && hits n route) ≡ true) = any_member (λ n. test n && hits n route) numbers hit in
        let both = and_parts (test found.0) (hits found.0 route) found.2 in
        sym (way_stored (at cases found.0) route.1 route.0.peer.asn (case_stored (at cases found.0) route both.1)) ∙ both.0

    hit_by : (route : Key × Path) → Contains (fin.entries state.routes) route → way route.1.chain ≡ true → any_hit test hits numbers route ≡ true
    hit_by route there goes_so =
        let number = are.of_each_route route.0 route.1 (entry_route state.routes route.0 route.1 there) in
        let tested : test number.0 ≡ true = way_stored (at cases number.0) route.1 route.0.peer.asn number.1 ∙ goes_so in
        let hit : hits number.0 route ≡ true = stored_case (at cases number.0) route number.1 in
        let listed : Contains numbers number.0 = Contains-from_any exact_unsigned_eq number.0 numbers (whole number.0 tested) in
        member_any (λ n. test n && hits n route) numbers number.0 listed (and_from (test number.0) (hits number.0 route) tested hit)

    weighed : (c : Option StoredCase) → cond (went_so way c) (users_or c) 0 ≡ users_by way c
    weighed None = refl
    weighed (Some c) = refl

    -- the routes of the cases that went so are all routes that did
    pub over_counted : sum_by (λ n. users_by way (at cases n)) numbers ≡ count_by (λ (route : Key × Path). way route.1.chain) (fin.entries state.routes)
    over_counted =
        sum_same (λ n. users_by way (at cases n)) (λ n. cond (test n) (users_or (at cases n)) 0) (λ n. sym (weighed (at cases n))) numbers
        ∙ sum_hits test hits (λ n. users_or (at cases n)) (fin.entries state.routes) numbers (exclusive numbers sorted) (weights numbers)
        ∙ count_same (any_hit test hits numbers) (λ (route : Key × Path). way route.1.chain) (fin.entries state.routes)
        (λ route there. both_ways (any_hit test hits numbers route) (way route.1.chain) (went route) (hit_by route there))
