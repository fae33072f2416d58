-- Each state has a list of the keys that its routes have, with their tallies.
use Rattle.std.proofs.Common.{◌≡◌, ℕ, zero, suc, ◌<◌, ◌⊎◌, inl, inr, Bool, true, false, cond, T, ◌&&◌, List, [], ◌∷◌, ◌++◌, refl, ap, sym, ◌∙◌, subst, arith}
use Rattle.std.specs.Prelude.{Contains}
use Rattle.std.specs.Cmp.{IsTotalOrder}
use Rattle.std.specs.FinMap as fin
use Rattle.std.specs.FinMap.Entries.{below_all, is_sorted}
use Rattle.std.specs.List.{AllByRecursion}
use Rattle.std.specs.List.Sorted.{IsStrictlySortedBy}
use Rattle.std.specs.Map.{keys_of}
use Rattle.std.specs.Ordering.{eq_by_cmp, is_lt}
use Rattle.std.specs.declared.cmp.Ordering.{Ordering}
use Rattle.std.specs.declared.cmp.Ordering.TheVariants.{Less, Equal, Greater}
use Rattle.std.specs.declared.option.Option.{Option}
use Rattle.std.specs.declared.option.Option.TheVariants.{Some, None}
use Rattle.std.proofs.lemmas.List.Elements.{Contains-append_left, Contains-append_right}
use Rattle.std.proofs.lemmas.Map.Made.{Contains-tail}
use Rattle.std.proofs.lemmas.Map.Lookups.{CmpEqualImpliesEq}
use Rattle.path_model.specs.Trail.{Path}
use Rattle.path_model.proofs.MapLemmas.{get_entries}
use Rattle.rib_store.specs.Pairs.{Paired}
use Rattle.rib_store.specs.State.{State}
use Rattle.listings.specs.declared.tally.Tally.{Tally}
use Rattle.listings.specs.Tallies.{AreTallied}
use Rattle.listings.specs.TallySteps.{tally_at}
use Rattle.listings.proofs.TallyCountLemmas.{in_cases, in_none, some_member}
use Rattle.listings.proofs.TallyGatherLemmas.{tallied}
use Rattle.listings.proofs.TallyHitLemmas.{paths_of, routes_of}
use Rattle.listings.proofs.TallyLemmas.{Tells, are_tallied}
use Rattle.listings.proofs.TallyPairsLemmas.{some_pairs}
use Rattle.listings.proofs.TallyTestLemmas.{itself, same_by, same_or_other}

-- ---- the keys of the pairs

module _ {K : Type 0} (keys_in : Paired → List K) where
  abbrev pub all_keys : List Paired → List K
  all_keys [] = []
  all_keys (p ∷ ps) = keys_in p ++ all_keys ps

  among_all : (ps : List Paired) (p : Paired) (key : K) → Contains ps p → Contains (keys_in p) key → Contains (all_keys ps) key
  among_all [] p key there has = absurd (in_none p there)
  among_all (q ∷ qs) p key there has = elim (in_cases q qs p there) [
    | inl same ↦ subst (λ (z : Paired). Contains (keys_in z ++ all_keys qs) key) (sym same) (Contains-append_left (keys_in p) (all_keys qs) key has)
    | inr later ↦ Contains-append_right (keys_in q) (all_keys qs) key (among_all qs p key later has)
  ]

  -- a key for which some pair is noted is among them
  pub noted_among : (test : K → Paired → Bool) → ((p : Paired) (key : K) → test key p ≡ true → Contains (keys_in p) key) → (ps : List Paired) (key : K)
      → 0 < paths_of (test key) ps → Contains (all_keys ps) key
  noted_among test named ps key some =
      let found : (p : Paired) × Contains ps p × (test key p ≡ true) = some_member (test key) ps some in
      among_all ps found.0 key found.1 (named found.0 key found.2)

-- ---- some keys with their tallies, in ascending order

module _ {K : Type 0} {R : K → K → Ordering} (total : IsTotalOrder R) (exact : CmpEqualImpliesEq R) (tally : K → Option Tally) where
  abbrev put : K → Option Tally → fin.FinMap R Tally → fin.FinMap R Tally
  put k None made = made
  put k (Some t) made = fin.insert made k t

  abbrev pub made : List K → fin.FinMap R Tally
  made [] = fin.empty
  made (k ∷ ks) = put k (tally k) (made ks)

  -- the key has what was put,
  put_here : (k : K) (o : Option Tally) (m : fin.FinMap R Tally) → (o ≡ None → fin.get m k ≡ None) → fin.get (put k o m) k ≡ o
  put_here k None m none = none refl
  put_here k (Some t) m none = fin.get-insert total m k t k ∙ ap (λ (b : Bool). cond b (Some t) (fin.get m k)) (itself total exact k)

  not_at : (k q : K) → (k ≡ q → ⊥) → (b : Bool) → eq_by_cmp R q k ≡ b → b ≡ false
  not_at k q other true e = absurd (other (sym (same_by total exact q k e)))
  not_at k q other false e = refl

  -- and each other one what it had
  put_other : (k q : K) (o : Option Tally) (m : fin.FinMap R Tally) → (k ≡ q → ⊥) → fin.get (put k o m) q ≡ fin.get m q
  put_other k q None m other = refl
  put_other k q (Some t) m other = fin.get-insert total m k t q
      ∙ ap (λ (b : Bool). cond b (Some t) (fin.get m q)) (not_at k q other (eq_by_cmp R q k) refl)

  later : (k : K) (ks : List K) (q : K) → (k ≡ q → ⊥) → Contains (k ∷ ks) q ⊎ (tally q ≡ None) → Contains ks q ⊎ (tally q ≡ None)
  later k ks q other (inl there) = inl (Contains-tail k ks q other there)
  later k ks q other (inr none) = inr none

  get_made : (ks : List K) (q : K) → Contains ks q ⊎ (tally q ≡ None) → fin.get (made ks) q ≡ tally q
  get_made [] q (inl there) = absurd (in_none q there)
  get_made [] q (inr none) = fin.get-empty R q ∙ sym none
  get_made (k ∷ ks) q is = elim (same_or_other total exact k q) [
    | inl same ↦ subst (λ (z : K). fin.get (put k (tally k) (made ks)) z ≡ tally z) same
        (put_here k (tally k) (made ks) (λ none. get_made ks k (inr none) ∙ none))
    | inr other ↦ put_other k q (tally k) (made ks) other ∙ get_made ks q (later k ks q other is)
  ]

  pub rows_have : (ks : List K) (q : K) → Contains ks q ⊎ (tally q ≡ None) → tally_at R (fin.entries (made ks)) q ≡ tally q
  rows_have ks q is =
      let rows = fin.entries (made ks) in
      sym (get_entries total rows q) ∙ fin.get-from_entries total rows q ∙ sym (fin.get-entries (made ks) q) ∙ get_made ks q is

-- ---- an order by a test, and by facts

left_of : (a b : Bool) → T (a && b) → T a
left_of true b p = tt
left_of false b p = p

right_of : (a b : Bool) → T (a && b) → T b
right_of true b p = p
right_of false b p = absurd p

is_less : (o : Ordering) → T (is_lt o) → o ≡ Less
is_less Less h = refl
is_less Equal h = absurd h
is_less Greater h = absurd h

module _ {K : Type 0} (R : K → K → Ordering) where
  below : (k : K) (es : List (K × Tally)) → T (below_all R k es) → AllByRecursion (λ q. R k q ≡ Less) (keys_of es)
  below k [] h = tt
  below k (e ∷ es) h = (is_less (R k e.0) (left_of _ _ h), below k es (right_of _ _ h))

  pub in_order : (es : List (K × Tally)) → T (is_sorted R es) → IsStrictlySortedBy R (keys_of es)
  unfolding IsStrictlySortedBy
  in_order [] h = tt
  in_order (e ∷ es) h = (below e.0 es (left_of _ _ h), in_order es (right_of _ _ h))

-- ---- all of them

none_tallied : {A : Type 0} (routes paths n : ℕ) → paths ≡ n → (0 < paths → A) → A ⊎ (tallied routes paths ≡ None)
none_tallied routes paths zero is some = inr (ap (tallied routes) is)
none_tallied routes paths (suc n) is some = inl (some (omega (arith, is)))

-- each state has them
pub some_tallied : {K : Type 0} {R : K → K → Ordering} (total : IsTotalOrder R) (exact : CmpEqualImpliesEq R) (Has : K → ℕ → Path → Type 0) (test : K → Paired → Bool)
    (state : State) → ((key : K) → Tells state Has key (test key)) → (keys_in : Paired → List K)
    → ((p : Paired) (key : K) → test key p ≡ true → Contains (keys_in p) key) → (rows : List (K × Tally)) × AreTallied R Has state rows
some_tallied {K} {R} total exact Has test state tells keys_in named =
    let pairs = some_pairs state in
    let tally : K → Option Tally = λ key. tallied (routes_of (test key) pairs.0) (paths_of (test key) pairs.0) in
    let keys : List K = all_keys keys_in pairs.0 in
    let rows : List (K × Tally) = fin.entries (made total exact tally keys) in (
      rows,
      are_tallied total exact Has test state tells pairs.0 rows pairs.1
          (λ key. rows_have total exact tally keys key
          (none_tallied (routes_of (test key) pairs.0) (paths_of (test key) pairs.0) (paths_of (test key) pairs.0) refl (noted_among keys_in test named pairs.0 key)))
          (in_order R rows (fin.entries_sorted (made total exact tally keys))),
    )
