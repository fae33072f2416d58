-- Sets that are held as sorted lists, for any keys whose order tells them apart.
use Rattle.std.proofs.Common.{◌≡◌, Bool, true, false, cond, ◌||◌, List, [], ◌∷◌, ◌++◌, map, length, is_some, Less, Some, None, refl, ap, sym, ◌∙◌, subst, arith}
use Rattle.std.specs.declared.cmp.Ordering.{Ordering}
use Rattle.std.specs.declared.cmp.Ordering.TheVariants.{Equal, Greater}
use Rattle.std.specs.declared.option.Option.{Option}
use Rattle.std.specs.Ordering.{eq_by_cmp}
use Rattle.std.specs.Cmp.{IsTotalOrder, Equal-is}
use Rattle.std.specs.List.{AllByRecursion, list_any, dedup, dedup_from}
use Rattle.std.specs.List.Sorted.{IsStrictlySortedBy, IsSorted, IsPermutation}
use Rattle.std.specs.List.Retain.{IsFiltered, DiffersFromLast}
use Rattle.std.specs.FinMap as map
use Rattle.std.specs.FinMap.Entries.{put, by_order}
use Rattle.std.proofs.lemmas.Map.Lookups.{CmpEqualImpliesEq}
use Rattle.std.proofs.lemmas.Map.Keys.{sorted_head, sorted_tail}
use Rattle.std.proofs.lemmas.List.Filters.{dedup_is}
use Rattle.std.proofs.lemmas.List.Kept.{IsStrictlySortedBy-dedup}
use Rattle.std.proofs.lemmas.List.Sorted.{list_any-IsPermutation}

-- a finite set: the keys of a map with nothing at each
abbrev pub Keyed : {K : Type 0} → (K → K → Ordering) → Type 0
Keyed R = map.FinMap R (Unit {0})

abbrev pub set_from : {K : Type 0} {R : K → K → Ordering} → List K → Keyed R
set_from [] = map.empty
set_from (k ∷ ks) = map.insert (set_from ks) k tt

nothing_sorted : {K : Type 0} (R : K → K → Ordering) → IsStrictlySortedBy R []
unfolding IsStrictlySortedBy
nothing_sorted R = tt

no_length : {A : Type 0} (xs : List A) → length xs ≡ 0 → xs ≡ []
no_length [] e = refl
no_length (x ∷ xs) e = absurd (omega arith)

same_unit : (a b : Option (Unit {0})) → is_some a ≡ is_some b → a ≡ b
same_unit None None e = refl
same_unit None (Some u) e = absurd cc
same_unit (Some u) None e = absurd cc
same_unit (Some u) (Some v) e = refl

some_cond : (b : Bool) (o : Option (Unit {0})) → is_some (cond b (Some tt) o) ≡ (b || is_some o)
some_cond true o = refl
some_cond false o = refl

or_swap : (a b c : Bool) → (a || (b || c)) ≡ (b || (a || c))
or_swap true true c = refl
or_swap true false c = refl
or_swap false b c = refl

or_again : (b c : Bool) → (b || c) ≡ (b || (b || c))
or_again true c = refl
or_again false c = refl

module _ {K : Type 0} {R : K → K → Ordering} (total : IsTotalOrder R) where
  abbrev units : List K → List (K × Unit {0})
  units xs = map {B = K × Unit {0}} (λ k. (k, tt)) xs

  put_first : (k : K) (xs : List K) → AllByRecursion (λ y. R k y ≡ Less) xs → put R k tt (units xs) ≡ (k, tt) ∷ units xs
  put_first k [] below = refl
  put_first k (x ∷ xs) below = rw below.0 refl

  entries_listed : (xs : List K) → IsStrictlySortedBy R xs → map.entries (set_from {R = R} xs) ≡ units xs
  entries_listed [] sorted = no_length (map.entries (map.empty {R = R})) (sym (map.len-entries (map.empty {R = R})) ∙ map.len-empty R (Unit {0}))
  entries_listed (x ∷ xs) sorted = map.entries-insert total (set_from xs) x tt ∙ ap (put R x tt) (entries_listed xs (sorted_tail R x xs sorted)) ∙ put_first x xs (sorted_head R x xs sorted)

  keys_of_units : (xs : List K) → map (λ (e : K × Unit {0}). e.0) (units xs) ≡ xs
  keys_of_units [] = refl
  keys_of_units (x ∷ xs) = ap (λ l. x ∷ l) (keys_of_units xs)

  -- the members of the set of a list that rises are the list
  pub keys_listed : (xs : List K) → IsStrictlySortedBy R xs → map.keys (set_from {R = R} xs) ≡ xs
  keys_listed xs sorted = ap (map (λ (e : K × Unit {0}). e.0)) (entries_listed xs sorted) ∙ keys_of_units xs

  -- which keys are in the set of a list
  pub in_set : (ks : List K) (q : K) → is_some (map.get (set_from {R = R} ks) q) ≡ list_any (eq_by_cmp R q) ks
  in_set [] q = ap is_some (map.get-empty R q)
  in_set (k ∷ ks) q = ap is_some (map.get-insert total (set_from ks) k tt q) ∙ some_cond (eq_by_cmp R q k) (map.get (set_from ks) q) ∙ ap (λ (b : Bool). eq_by_cmp R q k || b) (in_set ks q)

  pub same_keyed : CmpEqualImpliesEq R → (s t : Keyed R) → ((q : K) → is_some (map.get s q) ≡ is_some (map.get t q)) → s ≡ t
  same_keyed exact s t is = map.same_map total exact s t (λ q. same_unit (map.get s q) (map.get t q) (is q))

  any_pushed : (q k : K) (ks : List K) → list_any (eq_by_cmp R q) (ks ++ k ∷ []) ≡ (eq_by_cmp R q k || list_any (eq_by_cmp R q) ks)
  any_pushed q k [] = refl
  any_pushed q k (x ∷ ks) = ap (λ (b : Bool). eq_by_cmp R q x || b) (any_pushed q k ks) ∙ or_swap (eq_by_cmp R q x) (eq_by_cmp R q k) (list_any (eq_by_cmp R q) ks)

  -- one more at the end of the list is one more in the set
  pub set_pushed : CmpEqualImpliesEq R → (ks : List K) (k : K) → set_from {R = R} (ks ++ k ∷ []) ≡ map.insert (set_from ks) k tt
  set_pushed exact ks k = same_keyed exact _ _ (λ q. in_set (ks ++ k ∷ []) q ∙ any_pushed q k ks ∙ sym (ap is_some (map.get-insert total (set_from ks) k tt q) ∙ some_cond (eq_by_cmp R q k) (map.get (set_from ks) q) ∙ ap (λ (b : Bool). eq_by_cmp R q k || b) (in_set ks q)))

  module _ (exact : CmpEqualImpliesEq R) where
    one_kept : (q k : K) (xs : List K) → list_any (eq_by_cmp R q) (dedup_from (eq_by_cmp R) k xs) ≡ (eq_by_cmp R q k || list_any (eq_by_cmp R q) xs)
    one_kept q k [] = refl
    one_kept q k (x ∷ xs) = by_test (eq_by_cmp R x k) refl (one_kept q k xs) (one_kept q x xs) where
      by_test : (b : Bool) → eq_by_cmp R x k ≡ b → list_any (eq_by_cmp R q) (dedup_from (eq_by_cmp R) k xs) ≡ (eq_by_cmp R q k || list_any (eq_by_cmp R q) xs)
          → list_any (eq_by_cmp R q) (dedup_from (eq_by_cmp R) x xs) ≡ (eq_by_cmp R q x || list_any (eq_by_cmp R q) xs)
          → list_any (eq_by_cmp R q) (cond b (dedup_from (eq_by_cmp R) k xs) (k ∷ dedup_from (eq_by_cmp R) x xs)) ≡ (eq_by_cmp R q k || (eq_by_cmp R q x || list_any (eq_by_cmp R q) xs))
      by_test true t from_k from_x = from_k ∙ or_again (eq_by_cmp R q k) (list_any (eq_by_cmp R q) xs)
          ∙ ap (λ (y : K). eq_by_cmp R q k || (eq_by_cmp R q y || list_any (eq_by_cmp R q) xs)) (sym (exact x k ((Equal-is (R x k)).0 t)))
      by_test false t from_k from_x = ap (λ (b : Bool). eq_by_cmp R q k || b) from_x

    any_kept : (q : K) (xs : List K) → list_any (eq_by_cmp R q) (dedup (eq_by_cmp R) xs) ≡ list_any (eq_by_cmp R q) xs
    any_kept q [] = refl
    any_kept q (x ∷ xs) = one_kept q x xs

    -- a list that was sorted, and then rid of repeats, has the same set
    pub set_of_sorted_list : (xs ys zs : List K) → IsPermutation xs ys → IsFiltered (DiffersFromLast (eq_by_cmp R)) [] ys zs → set_from {R = R} zs ≡ set_from xs
    set_of_sorted_list xs ys zs moved filtered = same_keyed exact _ _ (λ q. in_set zs q
        ∙ ap (list_any (eq_by_cmp R q)) (dedup_is (eq_by_cmp R) ys zs filtered) ∙ any_kept q ys ∙ sym (list_any-IsPermutation (eq_by_cmp R q) xs ys moved) ∙ sym (in_set xs q))

  pub rises_sorted : (ys zs : List K) → IsSorted R ys → IsFiltered (DiffersFromLast (eq_by_cmp R)) [] ys zs → IsStrictlySortedBy R zs
  rises_sorted ys zs sorted filtered = subst (IsStrictlySortedBy R) (sym (dedup_is (eq_by_cmp R) ys zs filtered)) (IsStrictlySortedBy-dedup total (λ x y. refl) ys sorted)

module _ {K : Type 0} {R : K → K → Ordering} (total : IsTotalOrder R) (P : K → Type 0) where
  abbrev each_key : List (K × Unit {0}) → Type 0
  each_key es = AllByRecursion P (map (λ (e : K × Unit {0}). e.0) es)

  each_put : (k : K) (es : List (K × Unit {0})) → P k → each_key es → each_key (put R k tt es)
  each_put k [] one all = (one, tt)
  each_put k (e ∷ es) one all = by_case (R k e.0) (each_put k es one all.1) where
    by_case : (r : Ordering) → each_key (put R k tt es) → each_key (by_order r ((k, tt) ∷ e ∷ es) ((e.0, tt) ∷ es) (e ∷ put R k tt es))
    by_case Less more = (one, all)
    by_case Equal more = all
    by_case Greater more = (all.0, more)

  -- what is true of each item of a list is true of each member of its set
  pub each_member : (ks : List K) → AllByRecursion P ks → AllByRecursion P (map.keys (set_from {R = R} ks))
  each_member [] all = subst each_key (sym (entries_listed total [] (nothing_sorted R))) tt
  each_member (k ∷ ks) all = subst each_key (sym (map.entries-insert total (set_from ks) k tt)) (each_put k (map.entries (set_from ks)) all.0 (each_member ks all.1))
