-- Keys are tallied in one way.
use Rattle.std.proofs.Common.{◌≡◌, ℕ, ◌<◌, ◌≤◌, ◌⊎◌, inl, inr, List, [], ◌∷◌, length, refl, sym, ◌∙◌, subst, arith}
use Rattle.std.specs.Prelude.{map, Contains}
use Rattle.std.specs.Cmp.{IsTotalOrder, tied_itself}
use Rattle.std.specs.List.{All}
use Rattle.std.specs.List.Sorted.{IsStrictlySortedBy}
use Rattle.std.specs.Map.{keys_of}
use Rattle.std.specs.declared.cmp.Ordering.{Ordering}
use Rattle.std.specs.declared.cmp.Ordering.TheVariants.{Less, Equal}
use Rattle.std.proofs.lemmas.List.Elements.{All-contains, All-contains_itself, All-from_recursion, All-weaker}
use Rattle.std.proofs.lemmas.Map.Keys.{sorted_head, sorted_tail}
use Rattle.path_model.specs.declared.key.Key.{Key}
use Rattle.path_model.specs.Trail.{Path}
use Rattle.rib_store.specs.State.{State}
use Rattle.rib_store.proofs.ApartLemmas.{apart_within}
use Rattle.listings.specs.declared.tally.Tally.{Tally}
use Rattle.listings.specs.Tallies.{AreTallied, IsNumberOf, IsRouteWith, IsTally}
use Rattle.listings.proofs.TallyCountLemmas.{in_cases, in_head, in_map, in_none, in_tail}

-- ---- numbers of things

number_within : {A : Type 0} (P : A → Type 0) (m n : ℕ) → IsNumberOf P m → IsNumberOf P n → m ≤ n
number_within P m n a b =
    let within : length a.members ≤ length b.members = apart_within a.members b.members a.apart
    (All-weaker (Contains a.members) (Contains b.members) (λ x h. (b.exact x).1 ((a.exact x).0 h)) a.members (All-contains_itself a.members)) in
    omega (arith, within, a.counted, b.counted)

pub number_same : {A : Type 0} (P : A → Type 0) (m n : ℕ) → IsNumberOf P m → IsNumberOf P n → m ≡ n
number_same P m n a b = omega (arith, number_within P m n a b, number_within P n m b a)

-- where some have the property, one has it
number_some : {A : Type 0} (P : A → Type 0) (n : ℕ) → 0 < n → IsNumberOf P n → (x : A) × P x
number_some {A = A} P n some a = by a.members a.counted (λ x h. (a.exact x).0 h) where
  by : (xs : List A) → n ≡ length xs → ((x : A) → Contains xs x → P x) → (x : A) × P x
  by [] counted all = absurd (omega (arith, some, counted))
  by (x ∷ xs) counted all = (x, all x (in_head x xs))

-- ---- lists in order

pub shown_in : {A B : Type 0} (f : A → B) (xs : List A) (x : A) → Contains xs x → Contains (map f xs) (f x)
shown_in f [] x h = absurd (in_none x h)
shown_in {A = A} f (y ∷ ys) x h = elim (in_cases y ys x h) [
  | inl same ↦ subst (λ (z : A). Contains (map f (y ∷ ys)) (f z)) same (in_head (f y) (map f ys))
  | inr later ↦ in_tail (f y) (map f ys) (f x) (shown_in f ys x later)
]

not_below : {K : Type 0} {R : K → K → Ordering} → IsTotalOrder R → (k : K) → R k k ≡ Less → ⊥
not_below {R = R} total k less = let tied : R k k ≡ Equal = tied_itself total k in absurd cc

module _ {K X : Type 0} {R : K → K → Ordering} (total : IsTotalOrder R) where
  abbrev InOrder : List (K × X) → Type 0
  InOrder es = IsStrictlySortedBy R (keys_of es)

  -- the first key is below that of each later entry
  first_below : (x : K × X) (xs : List (K × X)) (e : K × X) → InOrder (x ∷ xs) → Contains xs e → R x.0 e.0 ≡ Less
  first_below x xs e sorted there = All-contains (λ (k : K). R x.0 k ≡ Less) (keys_of xs) e.0
      (All-from_recursion (λ (k : K). R x.0 k ≡ Less) (keys_of xs) (sorted_head R x.0 (keys_of xs) sorted)) (shown_in (λ (e : K × X). e.0) xs e there)

  same_first : (x y : K × X) (xs ys : List (K × X)) → InOrder (x ∷ xs) → InOrder (y ∷ ys) → (y ≡ x) ⊎ Contains ys x → (x ≡ y) ⊎ Contains xs y → x ≡ y
  same_first x y xs ys one other (inl same) there = sym same
  same_first x y xs ys one other (inr here) (inl same) = same
  same_first x y xs ys one other (inr here) (inr there) =
      absurd (not_below total x.0 (total.trans x.0 y.0 x.0 (first_below x xs y one there) (first_below y ys x other here)))

  -- what the one has behind the first, the other has
  rest_within : (x y : K × X) (xs ys : List (K × X)) → x ≡ y → InOrder (x ∷ xs) → ((e : K × X) → Contains (x ∷ xs) e → Contains (y ∷ ys) e)
      → (e : K × X) → Contains xs e → Contains ys e
  rest_within x y xs ys same sorted within e there = elim (in_cases y ys e (within e (in_tail x xs e there))) [
    | inl first ↦ absurd (not_below total x.0 (subst (λ (z : K × X). R x.0 z.0 ≡ Less) (sym (same ∙ first)) (first_below x xs e sorted there)))
    | inr later ↦ later
  ]

  same_entries : (xs ys : List (K × X)) → InOrder xs → InOrder ys → ((e : K × X) → Contains xs e → Contains ys e)
      → ((e : K × X) → Contains ys e → Contains xs e) → xs ≡ ys
  same_entries [] [] one other to from = refl
  same_entries [] (y ∷ ys) one other to from = absurd (in_none y (from y (in_head y ys)))
  same_entries (x ∷ xs) [] one other to from = absurd (in_none x (to x (in_head x xs)))
  same_entries (x ∷ xs) (y ∷ ys) one other to from =
      let first : x ≡ y = same_first x y xs ys one other (in_cases y ys x (to x (in_head x xs))) (in_cases x xs y (from y (in_head y ys))) in
      let rest : xs ≡ ys = same_entries xs ys (sorted_tail R x.0 (keys_of xs) one) (sorted_tail R y.0 (keys_of ys) other)
      (rest_within x y xs ys first one to) (rest_within y x ys xs (sym first) other from) in
      λ i. first i ∷ rest i

-- ---- tallies

module _ {K : Type 0} (Has : K → ℕ → Path → Type 0) (state : State) where
  tally_same : (key : K) (s t : Tally) → IsTally Has state (key, s) → IsTally Has state (key, t) → s ≡ t
  tally_same key s t a b =
      let routes : s.routes ≡ t.routes = number_same _ s.routes t.routes a.routes b.routes in
      let paths : s.paths ≡ t.paths = number_same _ s.paths t.paths a.paths b.paths in
      λ i. record { routes = routes i; paths = paths i }

  -- what the one list has, the other has
  tallied_within : (one other : List (K × Tally)) → All (IsTally Has state) one → All (IsTally Has state) other
      → ((key : K) (route : Key) → IsRouteWith Has state key route → Contains (keys_of other) key) → (row : K × Tally) → Contains one row → Contains other row
  tallied_within one other each_one each_other all row there =
      let is : IsTally Has state row = All-contains (IsTally Has state) one row each_one there in
      let route : (k : Key) × IsRouteWith Has state row.0 k = number_some (IsRouteWith Has state row.0) row.1.routes is.some is.routes in
      let found : (r : K × Tally) × Contains other r × (r.0 ≡ row.0) = in_map (λ (r : K × Tally). r.0) other row.0 (all row.0 route.0 route.1) in
      let also : IsTally Has state found.0 = All-contains (IsTally Has state) other found.0 each_other found.1 in
      let tally : found.0.1 ≡ row.1 = tally_same row.0 found.0.1 row.1 (subst (λ (key : K). IsTally Has state (key, found.0.1)) found.2 also) is in
      subst (λ (r : K × Tally). Contains other r) (λ i. (found.2 i, tally i)) found.1

pub tallied_unique : {K : Type 0} {R : K → K → Ordering} (total : IsTotalOrder R) (Has : K → ℕ → Path → Type 0) (state : State) (one other : List (K × Tally))
    → AreTallied R Has state one → AreTallied R Has state other → one ≡ other
tallied_unique total Has state one other a b =
    same_entries total one other a.ascending b.ascending (tallied_within Has state one other a.each b.each b.all) (tallied_within Has state other one b.each a.each a.all)
