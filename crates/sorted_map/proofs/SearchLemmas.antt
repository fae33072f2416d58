-- What a search finds among rising keys, and what a look-up, an entry more and an entry less come to there.
use Rattle.std.proofs.Common.{◌≡◌, ℕ, zero, suc, ◌+◌, ◌<◌, ◌≤◌, true, cond, List, [], ◌∷◌, length, get_or, set, None, Some, Result, Ok, Err, ◌-◌, slice_get, arith, refl, ap, sym, subst, ◌∙◌}
use Rattle.std.specs.Prelude.{IfOk, IfErr}
use Rattle.std.specs.declared.cmp.Ordering.{Ordering}
use Rattle.std.specs.declared.cmp.Ordering.TheVariants.{Less, Equal, Greater}
use Rattle.std.specs.BTreeMap.{insert_entry, is_at}
use Rattle.std.specs.Cmp.{IsTotalOrder}
use Rattle.std.specs.List.{AllByRecursion, AllWithin, HoldsAt, zip, insert, remove}
use Rattle.std.specs.List.Sorted.{IsStrictlySortedBy, IsBinarySearchResult, IsSearchInRange, IsSortedBy}
use Rattle.std.specs.Map.{lookup, remove_entry}
use Rattle.std.specs.Ordering.{match_ordering, ordering_reverse, is_eq, is_gt, is_lt}
use Rattle.std.proofs.lemmas.List.Sorted.{searchable_from_sorted}
use Rattle.std.proofs.lemmas.Option.{get_or_from_slice_get}
use Rattle.std.proofs.lemmas.Map.Keys.{Less-from_sorted, sorted_tail}
use Rattle.sorted_map.specs.Chunk.{HasAt, IsGap}

module _ {K : Type 0} {R : K → K → Ordering} (total : IsTotalOrder R) where
  -- ---- two keys
  pub flipped : (o : Ordering) (x y : K) → R x y ≡ o → R y x ≡ ordering_reverse o
  flipped o x y is = total.antisymm y x ∙ ap ordering_reverse is

  module _ (k : K) where
    gt_is : (o : Ordering) → is_gt o ≡ true → o ≡ Greater
    gt_is Less is = absurd cc
    gt_is Equal is = absurd cc
    gt_is Greater is = refl

    -- what is above the last key is above all
    ends_below : (ds : List K) (n : ℕ) (z : K) → length ds ≡ suc n → IsStrictlySortedBy R ds → get_or ds n z ≡ z → R k z ≡ Greater → AllByRecursion (λ y. R k y ≡ Greater) ds
    ends_below [] n z long sorted last above = tt
    ends_below (x ∷ []) zero z long sorted last above = (subst (λ (y : K). R k y ≡ Greater) (sym last) above, tt)
    ends_below (x ∷ []) (suc n) z long sorted last above = absurd (omega (arith, long))
    ends_below (x ∷ y ∷ ys) zero z long sorted last above = absurd (omega (arith, long))
    ends_below (x ∷ y ∷ ys) (suc n) z long sorted last above = (
      flipped Less x k (total.trans x z k
          (subst (λ (w : K). R x w ≡ Less) last (Less-from_sorted R (x ∷ y ∷ ys) 0 (suc n) z sorted (omega arith) (omega (arith, long)))) (flipped Greater k z above)),
      ends_below (y ∷ ys) n z (omega (arith, long)) (sorted_tail R x (y ∷ ys) sorted) last above,
    )

    pub below_by_last_key : (ds : List K) (z : K) → IsStrictlySortedBy R ds → slice_get ds (length ds - 1) ≡ Some z → is_gt (R k z) ≡ true → AllByRecursion (λ y. R k y ≡ Greater) ds
    below_by_last_key [] z sorted last above = tt
    below_by_last_key (x ∷ xs) z sorted last above =
        let less : length (x ∷ xs) - 1 ≡ length xs = omega arith in
        ends_below (x ∷ xs) (length xs) z refl sorted (get_or_from_slice_get (x ∷ xs) (length xs) z z (subst (λ (n : ℕ). slice_get (x ∷ xs) n ≡ Some z) less last)) (gt_is (R k z) above)

    -- ---- what a search finds
    has_at : (ks : List K) (i : ℕ) → IsStrictlySortedBy R ks → i < length ks → HoldsAt (λ y. R y k ≡ Equal) ks i → HasAt R k ks i
    has_at [] i sorted within here = absurd (omega (arith, within))
    has_at (x ∷ xs) zero sorted within here = flipped Equal x k (here x)
    has_at (x ∷ xs) (suc i) sorted within here = (
      total.congr k (get_or xs i x) x (flipped Equal (get_or xs i x) k (here x)) ∙ flipped Less x (get_or xs i x) (Less-from_sorted R (x ∷ xs) 0 (suc i) x sorted (omega arith) within),
      has_at xs i (sorted_tail R x xs sorted) (omega (arith, within)) (λ d. here d),
    )

    eq_is : (o : Ordering) → is_eq o ≡ true → o ≡ Equal
    eq_is Less is = absurd cc
    eq_is Equal is = refl
    eq_is Greater is = absurd cc

    -- a key that is the last one
    pub has_last : (ks : List K) (z : K) → IsStrictlySortedBy R ks → slice_get ks (length ks - 1) ≡ Some z → is_eq (R k z) ≡ true → HasAt R k ks (length ks - 1)
    has_last [] z sorted last here = absurd cc
    has_last (x ∷ xs) z sorted last here = has_at (x ∷ xs) (length (x ∷ xs) - 1) sorted (omega arith)
        (λ d. ap (λ (y : K). R y k) (get_or_from_slice_get (x ∷ xs) (length (x ∷ xs) - 1) z d last) ∙ flipped Equal k z (eq_is (R k z) here))

    all_below : (ks : List K) → AllWithin (λ y. R y k ≡ Greater) ks 0 (length ks) → AllByRecursion (λ y. R k y ≡ Less) ks
    all_below [] above = tt
    all_below (x ∷ xs) above = (flipped Greater x k (above 0 x (omega arith) (omega arith)), all_below xs (λ j d low high. above (suc j) d (omega arith) (omega (arith, high))))

    is_gap : (ks : List K) (i : ℕ) → i ≤ length ks → AllWithin (λ y. R y k ≡ Less) ks 0 i → AllWithin (λ y. R y k ≡ Greater) ks i (length ks) → IsGap R k ks i
    is_gap ks zero within below above = all_below ks above
    is_gap [] (suc i) within below above = absurd (omega (arith, within))
    is_gap (x ∷ xs) (suc i) within below above = (
      flipped Less x k (below 0 x (omega arith) (omega arith)),
      is_gap xs i (omega (arith, within)) (λ j d low high. below (suc j) d (omega arith) (omega (arith, high))) (λ j d low high. above (suc j) d (omega (arith, low)) (omega (arith, high))),
    )

    rises : (ks : List K) → IsStrictlySortedBy R ks → IsSortedBy (λ a b. is_lt (R a b)) ks
    rises ks sorted j d low high = ap is_lt (flipped Less (get_or ks j d) (get_or ks (j + 1) d) (Less-from_sorted R ks j (j + 1) d sorted (omega arith) high))

    pub searched : (ks : List K) (r : Result ℕ ℕ) → IsStrictlySortedBy R ks → IsSearchInRange r (length ks) → IsBinarySearchResult (λ y. R y k) ks r
        → record { found : IfOk r (HasAt R k ks); absent : IfErr r (IsGap R k ks) }
    searched ks (Ok i) sorted within here = record { found = has_at ks i sorted within here; absent = tt }
    searched ks (Err i) sorted within parted =
        let both = parted (searchable_from_sorted total (λ x. x) ks k (rises ks sorted)) in
        record { found = tt; absent = is_gap ks i within both.0 both.1 }

module _ {K V : Type 0} (R : K → K → Ordering) (k : K) where
  -- ---- look-ups
  pub lookup_has : (ks : List K) (vs : List V) (i : ℕ) (d : V) → length vs ≡ length ks → HasAt R k ks i → lookup (is_at (R k)) (zip ks vs) ≡ Some (get_or vs i d)
  lookup_has [] vs i d same has = absurd has
  lookup_has (x ∷ xs) [] i d same has = absurd (omega (arith, same))
  lookup_has (x ∷ xs) (y ∷ ys) zero d same has = ap (λ (o : Ordering). cond (is_eq o) (Some y) (lookup (is_at (R k)) (zip xs ys))) has
  lookup_has (x ∷ xs) (y ∷ ys) (suc i) d same has =
      ap (λ (o : Ordering). cond (is_eq o) (Some y) (lookup (is_at (R k)) (zip xs ys))) has.0 ∙ lookup_has xs ys i d (omega (arith, same)) has.1

  lookup_all_below : (ks : List K) (vs : List V) → AllByRecursion (λ y. R k y ≡ Less) ks → lookup (is_at (R k)) (zip ks vs) ≡ None
  lookup_all_below [] vs below = refl
  lookup_all_below (x ∷ xs) [] below = refl
  lookup_all_below (x ∷ xs) (y ∷ ys) below = ap (λ (o : Ordering). cond (is_eq o) (Some y) (lookup (is_at (R k)) (zip xs ys))) below.0 ∙ lookup_all_below xs ys below.1

  pub lookup_gap : (ks : List K) (vs : List V) (i : ℕ) → IsGap R k ks i → lookup (is_at (R k)) (zip ks vs) ≡ None
  lookup_gap ks vs zero gap = lookup_all_below ks vs gap
  lookup_gap [] vs (suc i) gap = absurd gap
  lookup_gap (x ∷ xs) [] (suc i) gap = refl
  lookup_gap (x ∷ xs) (y ∷ ys) (suc i) gap = ap (λ (o : Ordering). cond (is_eq o) (Some y) (lookup (is_at (R k)) (zip xs ys))) gap.0 ∙ lookup_gap xs ys i gap.1

  -- ---- one entry more
  pub insert_has : (v : V) (ks : List K) (vs : List V) (i : ℕ) → length vs ≡ length ks → HasAt R k ks i → zip ks (set vs i v) ≡ insert_entry R (zip ks vs) k v
  insert_has v [] vs i same has = absurd has
  insert_has v (x ∷ xs) [] i same has = absurd (omega (arith, same))
  insert_has v (x ∷ xs) (y ∷ ys) zero same has =
      sym (ap (λ (o : Ordering). match_ordering o ((k, v) ∷ (x, y) ∷ zip xs ys) ((x, v) ∷ zip xs ys) ((x, y) ∷ insert_entry R (zip xs ys) k v)) has)
  insert_has v (x ∷ xs) (y ∷ ys) (suc i) same has =
      ap (λ (es : List (K × V)). (x, y) ∷ es) (insert_has v xs ys i (omega (arith, same)) has.1)
      ∙ sym (ap (λ (o : Ordering). match_ordering o ((k, v) ∷ (x, y) ∷ zip xs ys) ((x, v) ∷ zip xs ys) ((x, y) ∷ insert_entry R (zip xs ys) k v)) has.0)

  insert_first_of : (v : V) (es : List (K × V)) → AllByRecursion (λ e. R k e.0 ≡ Less) es → (k, v) ∷ es ≡ insert_entry R es k v
  insert_first_of v [] below = refl
  insert_first_of v (e ∷ es) below = sym (ap (λ (o : Ordering). match_ordering o ((k, v) ∷ e ∷ es) ((e.0, v) ∷ es) (e ∷ insert_entry R es k v)) below.0)

  zip_below : (ks : List K) (vs : List V) → AllByRecursion (λ y. R k y ≡ Less) ks → AllByRecursion (λ e. R k e.0 ≡ Less) (zip ks vs)
  zip_below [] vs below = tt
  zip_below (x ∷ xs) [] below = tt
  zip_below (x ∷ xs) (y ∷ ys) below = (below.0, zip_below xs ys below.1)

  pub insert_gap : (v : V) (ks : List K) (vs : List V) (i : ℕ) → length vs ≡ length ks → IsGap R k ks i → insert (zip ks vs) i (k, v) ≡ insert_entry R (zip ks vs) k v
  insert_gap v ks vs zero same gap = insert_first_of v (zip ks vs) (zip_below ks vs gap)
  insert_gap v [] vs (suc i) same gap = absurd gap
  insert_gap v (x ∷ xs) [] (suc i) same gap = absurd (omega (arith, same))
  insert_gap v (x ∷ xs) (y ∷ ys) (suc i) same gap =
      ap (λ (es : List (K × V)). (x, y) ∷ es) (insert_gap v xs ys i (omega (arith, same)) gap.1)
      ∙ sym (ap (λ (o : Ordering). match_ordering o ((k, v) ∷ (x, y) ∷ zip xs ys) ((x, v) ∷ zip xs ys) ((x, y) ∷ insert_entry R (zip xs ys) k v)) gap.0)

  -- ---- one entry less
  pub remove_has : (ks : List K) (vs : List V) (i : ℕ) → length vs ≡ length ks → HasAt R k ks i → zip (remove ks i) (remove vs i) ≡ remove_entry (is_at (R k)) (zip ks vs)
  remove_has [] vs i same has = absurd has
  remove_has (x ∷ xs) [] i same has = absurd (omega (arith, same))
  remove_has (x ∷ xs) (y ∷ ys) zero same has = sym (ap (λ (o : Ordering). cond (is_eq o) (zip xs ys) ((x, y) ∷ remove_entry (is_at (R k)) (zip xs ys))) has)
  remove_has (x ∷ xs) (y ∷ ys) (suc i) same has =
      ap (λ (es : List (K × V)). (x, y) ∷ es) (remove_has xs ys i (omega (arith, same)) has.1)
      ∙ sym (ap (λ (o : Ordering). cond (is_eq o) (zip xs ys) ((x, y) ∷ remove_entry (is_at (R k)) (zip xs ys))) has.0)
