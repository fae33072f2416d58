-- Entries in chunks as one list: where a key belongs, and what one entry more or less there comes to.
use Rattle.std.proofs.Common.{◌≡◌, ◌≢◌, ℕ, zero, suc, ◌+◌, ◌<◌, ◌≤◌, true, false, List, [], ◌∷◌, ◌++◌, length, get_or, set, take, drop, None, arith, refl, ap, sym, ◌∙◌, append_assoc, true≢false}
use Rattle.std.specs.declared.cmp.Ordering.{Ordering}
use Rattle.std.specs.declared.cmp.Ordering.TheVariants.{Less, Equal, Greater}
use Rattle.std.specs.BTreeMap.{insert_entry, is_at}
use Rattle.std.specs.Cmp.{IsTotalOrder}
use Rattle.std.specs.List.{AllByRecursion, AllWithin, insert, remove}
use Rattle.std.specs.List.Sorted.{IsStrictlySortedBy, IsPartitionedBy}
use Rattle.std.specs.Map.{keys_of, lookup, remove_entry}
use Rattle.std.specs.Ordering.{is_eq, is_ge}
use Rattle.std.proofs.lemmas.List.{append-nil}
use Rattle.std.proofs.lemmas.Map.{NonePasses, lookup-none}
use Rattle.std.proofs.lemmas.Map.Keys.{sorted_head, sorted_tail}
use Rattle.sorted_map.specs.Chunk.{begins_by, AreBelow, AreAbove}
use Rattle.sorted_map.specs.Joined.{joined, AreInOrder, HaveEntries, IsPlace}
use Rattle.sorted_map.proofs.BlockLemmas.{all_more, of_keys, lookup_first, lookup_second, remove_first, remove_second, insert_first, insert_second}
use Rattle.sorted_map.proofs.SearchLemmas.{flipped}

-- ---- what holds of all
pub all_both : {A : Type 0} (P : A → Type 0) (xs ys : List A) → AllByRecursion P xs → AllByRecursion P ys → AllByRecursion P (xs ++ ys)
all_both P [] ys first second = second
all_both P (x ∷ xs) ys first second = (first.0, all_both P xs ys first.1 second)

pub all_front : {A : Type 0} (P : A → Type 0) (xs ys : List A) → AllByRecursion P (xs ++ ys) → AllByRecursion P xs
all_front P [] ys all = tt
all_front P (x ∷ xs) ys all = (all.0, all_front P xs ys all.1)

pub all_back : {A : Type 0} (P : A → Type 0) (xs ys : List A) → AllByRecursion P (xs ++ ys) → AllByRecursion P ys
all_back P [] ys all = all
all_back P (x ∷ xs) ys all = all_back P xs ys all.1

module _ {K V : Type 0} where
  -- ---- the chunk at a place
  pub joined_at : (cs : List (List (K × V))) (i : ℕ) (d : List (K × V)) → i < length cs → joined cs ≡ joined (take i cs) ++ (get_or cs i d ++ joined (drop (suc i) cs))
  joined_at [] i d within = absurd (omega (arith, within))
  joined_at (c ∷ cs) zero d within = refl
  joined_at (c ∷ cs) (suc i) d within =
      ap (λ (es : List (K × V)). c ++ es) (joined_at cs i d (omega (arith, within))) ∙ sym (append_assoc c (joined (take i cs)) (get_or cs i d ++ joined (drop (suc i) cs)))

  pub joined_set : (cs : List (List (K × V))) (i : ℕ) (b : List (K × V)) → i < length cs → joined (set cs i b) ≡ joined (take i cs) ++ (b ++ joined (drop (suc i) cs))
  joined_set [] i b within = absurd (omega (arith, within))
  joined_set (c ∷ cs) zero b within = refl
  joined_set (c ∷ cs) (suc i) b within =
      ap (λ (es : List (K × V)). c ++ es) (joined_set cs i b (omega (arith, within))) ∙ sym (append_assoc c (joined (take i cs)) (b ++ joined (drop (suc i) cs)))

  pub joined_pushed : (cs : List (List (K × V))) (c : List (K × V)) → joined (cs ++ c ∷ []) ≡ joined cs ++ c
  joined_pushed [] c = append-nil c
  joined_pushed (b ∷ cs) c = ap (λ (es : List (K × V)). b ++ es) (joined_pushed cs c) ∙ sym (append_assoc b (joined cs) c)

  pub emptied_gone : (cs : List (List (K × V))) (i : ℕ) (b : List (K × V)) → b ≡ [] → joined (remove (set cs i b) i) ≡ joined (set cs i b)
  emptied_gone [] zero b none = refl
  emptied_gone [] (suc i) b none = refl
  emptied_gone (c ∷ cs) zero b none = sym (ap (λ (es : List (K × V)). es ++ joined cs) none)
  emptied_gone (c ∷ cs) (suc i) b none = ap (λ (es : List (K × V)). c ++ es) (emptied_gone cs i b none)

  -- ---- halves
  parts : (h : ℕ) (es fs : List (K × V)) → take h es ++ (drop h es ++ fs) ≡ es ++ fs
  parts zero es fs = refl
  parts (suc h) [] fs = refl
  parts (suc h) (e ∷ es) fs = ap (λ (gs : List (K × V)). e ∷ gs) (parts h es fs)

  pub joined_halves : (cs : List (List (K × V))) (i h : ℕ) (d : List (K × V)) → i < length cs → joined (set (insert cs (suc i) (drop h (get_or cs i d))) i (take h (get_or cs i d))) ≡ joined cs
  joined_halves [] i h d within = absurd (omega (arith, within))
  joined_halves (c ∷ cs) zero h d within = parts h c (joined cs)
  joined_halves (c ∷ cs) (suc i) h d within = ap (λ (es : List (K × V)). c ++ es) (joined_halves cs i h d (omega (arith, within)))

  pub some_at : (cs : List (List (K × V))) (i : ℕ) (d : List (K × V)) → HaveEntries cs → i < length cs → get_or cs i d ≢ []
  some_at [] i d have within = absurd (omega (arith, within))
  some_at (c ∷ cs) zero d have within = have.0
  some_at (c ∷ cs) (suc i) d have within = some_at cs i d have.1 (omega (arith, within))

  -- ---- order
  module _ (R : K → K → Ordering) where
    pub sorted_back : (es fs : List (K × V)) → IsStrictlySortedBy R (keys_of (es ++ fs)) → IsStrictlySortedBy R (keys_of fs)
    sorted_back [] fs sorted = sorted
    sorted_back (e ∷ es) fs sorted = sorted_back es fs (sorted_tail R e.0 (keys_of (es ++ fs)) sorted)

    keys_front : (P : K → Type 0) (es fs : List (K × V)) → AllByRecursion P (keys_of (es ++ fs)) → AllByRecursion P (keys_of es)
    keys_front P [] fs all = tt
    keys_front P (e ∷ es) fs all = (all.0, keys_front P es fs all.1)

    pub sorted_front : (es fs : List (K × V)) → IsStrictlySortedBy R (keys_of (es ++ fs)) → IsStrictlySortedBy R (keys_of es)
    unfolding IsStrictlySortedBy
    sorted_front [] fs sorted = tt
    sorted_front (e ∷ es) fs sorted = (keys_front (λ y. R e.0 y ≡ Less) es fs sorted.0, sorted_front es fs sorted.1)

    pub sorted_at : (cs : List (List (K × V))) (i : ℕ) (d : List (K × V)) → i < length cs → AreInOrder R cs → IsStrictlySortedBy R (keys_of (get_or cs i d))
    sorted_at [] i d within sorted = absurd (omega (arith, within))
    sorted_at (c ∷ cs) zero d within sorted = sorted_front c (joined cs) sorted
    sorted_at (c ∷ cs) (suc i) d within sorted = sorted_at cs i d (omega (arith, within)) (sorted_back c (joined cs) sorted)

-- all of one of several
pub all_at : {K V : Type 0} (P : K × V → Type 0) (cs : List (List (K × V))) (i : ℕ) (d : List (K × V)) → i < length cs → AllByRecursion P (joined cs) → AllByRecursion P (get_or cs i d)
all_at P [] i d within all = absurd (omega (arith, within))
all_at P (c ∷ cs) zero d within all = all_front P c (joined cs) all
all_at P (c ∷ cs) (suc i) d within all = all_at P cs i d (omega (arith, within)) (all_back P c (joined cs) all)

module _ {K : Type 0} {R : K → K → Ordering} (total : IsTotalOrder R) (k : K) where
  -- what is below one that isn't above the key is below the key
  over : (x f : K) (o : Ordering) → R k f ≡ o → R x f ≡ Less → is_ge o ≡ true → R k x ≡ Greater
  over x f Less is below at_least = absurd (true≢false (sym at_least))
  over x f Equal is below at_least = total.congr k f x is ∙ flipped total Less x f below
  over x f Greater is below at_least = flipped total Less x k (total.trans x f k below (flipped total Greater k f is))

-- what isn't at most the key is above it
under : (o : Ordering) → is_ge o ≡ false → o ≡ Less
under Less least = refl
under Equal least = absurd (true≢false least)
under Greater least = absurd (true≢false least)

module _ {K V : Type 0} {R : K → K → Ordering} (total : IsTotalOrder R) (k : K) where
  at_seam : (P : K → Type 0) (es : List (K × V)) (f : K × V) (fs : List (K × V)) → AllByRecursion P (keys_of (es ++ f ∷ fs)) → P f.0
  at_seam P [] f fs all = all.0
  at_seam P (e ∷ es) f fs all = at_seam P es f fs all.1

  -- what stands before a key that isn't above this one is below this one
  pub before_first : (es : List (K × V)) (f : K × V) (fs : List (K × V)) → IsStrictlySortedBy R (keys_of (es ++ f ∷ fs)) → is_ge (R k f.0) ≡ true → AreBelow R k es
  before_first [] f fs sorted at_least = tt
  before_first (e ∷ es) f fs sorted at_least = (
    over total k e.0 f.0 (R k f.0) refl (at_seam (λ y. R e.0 y ≡ Less) es f fs (sorted_head R e.0 (keys_of (es ++ f ∷ fs)) sorted)) at_least,
    before_first es f fs (sorted_tail R e.0 (keys_of (es ++ f ∷ fs)) sorted) at_least,
  )

  -- ---- the chunk that a key belongs to
  -- where none begins by the key, all are above it
  all_above : (cs : List (List (K × V))) → AreInOrder R cs → HaveEntries cs → AllWithin (λ c. begins_by R k c ≡ false) cs 0 (length cs) → AreAbove R k (joined cs)
  all_above [] sorted have others = tt
  all_above ([] ∷ cs) sorted have others = absurd (have.0 refl)
  all_above ((e ∷ es) ∷ cs) sorted have others =
      let below : R k e.0 ≡ Less = under (R k e.0) (others 0 [] (omega arith) (omega arith)) in (
        below,
        of_keys (λ y. R k y ≡ Less) (es ++ joined cs)
            (all_more (λ y. R e.0 y ≡ Less) (λ y. R k y ≡ Less) (λ y. total.trans k e.0 y below) (keys_of (es ++ joined cs)) (sorted_head R e.0 (keys_of (es ++ joined cs)) sorted)),
      )

  -- n is how many begin by the key, and i the last of these, or the first chunk where there are none
  pub placed : (cs : List (List (K × V))) (n i : ℕ) → AreInOrder R cs → HaveEntries cs → i < length cs → n ≤ i + 1 → (0 < i → n ≡ i + 1)
      → AllWithin (λ c. begins_by R k c ≡ true) cs 0 n → AllWithin (λ c. begins_by R k c ≡ false) cs n (length cs) → IsPlace R k cs i
  placed [] n i sorted have within low exact begun_by others = absurd (omega (arith, within))
  placed (c ∷ cs) n zero sorted have within low exact begun_by others = record {
    within = within;
    before = tt;
    after = all_above cs (sorted_back R c (joined cs) sorted) have.1 (λ j d lo hi. others (suc j) d (omega (arith, low)) (omega (arith, hi)));
  }
  placed (c ∷ []) n (suc i) sorted have within low exact begun_by others = absurd (omega (arith, within))
  placed (c ∷ [] ∷ cs) n (suc i) sorted have within low exact begun_by others = absurd (have.1.0 refl)
  placed (c ∷ (f ∷ fs) ∷ cs) n (suc i) sorted have within low exact begun_by others =
      let is : n ≡ suc i + 1 = exact (omega arith) in
      let rest = placed ((f ∷ fs) ∷ cs) (i + 1) i (sorted_back R c (joined ((f ∷ fs) ∷ cs)) sorted) have.1 (omega (arith, within)) (omega arith) (λ some. refl)
      (λ j d lo hi. begun_by (suc j) d (omega arith) (omega (arith, hi, is))) (λ j d lo hi. others (suc j) d (omega (arith, lo, is)) (omega (arith, hi))) in
      record {
        within = within;
        before = all_both (λ e. R k e.0 ≡ Greater) c (joined (take i ((f ∷ fs) ∷ cs)))
            (before_first c f (fs ++ joined cs) sorted (begun_by 1 [] (omega arith) (omega (arith, is)))) rest.before;
        after = rest.after;
      }

  begun : (c : List (K × V)) (x : K) → AllByRecursion (λ e. R x e.0 ≡ Less) c → begins_by R k c ≡ true → R k x ≡ Greater
  begun [] x all begun_by = absurd (true≢false (sym begun_by))
  begun (f ∷ fs) x all begun_by = over total k x f.0 (R k f.0) refl all.0 begun_by

  -- those that begin by the key come first
  pub parted : (cs : List (List (K × V))) → AreInOrder R cs → HaveEntries cs → IsPartitionedBy (begins_by R k) cs
  parted [] sorted have i j d up within begun_by = absurd (omega (arith, within))
  parted (c ∷ cs) sorted have zero zero d up within begun_by = begun_by
  parted ([] ∷ cs) sorted have zero (suc j) d up within begun_by = absurd (have.0 refl)
  parted ((e ∷ es) ∷ cs) sorted have zero (suc j) d up within begun_by =
      ap is_ge (begun (get_or cs j d) e.0
      (all_at (λ f. R e.0 f.0 ≡ Less) cs j d (omega (arith, within))
      (all_back (λ f. R e.0 f.0 ≡ Less) es (joined cs) (of_keys (λ y. R e.0 y ≡ Less) (es ++ joined cs) (sorted_head R e.0 (keys_of (es ++ joined cs)) sorted)))) begun_by)
  parted (c ∷ cs) sorted have (suc i) zero d up within begun_by = absurd (omega (arith, up))
  parted (c ∷ cs) sorted have (suc i) (suc j) d up within begun_by = parted cs (sorted_back R c (joined cs) sorted) have.1 i j d (omega (arith, up)) (omega (arith, within)) begun_by

  -- where the last chunk is below the key, all are
  pub below_by_last : (cs : List (List (K × V))) (n : ℕ) (d : List (K × V)) → length cs ≡ n + 1 → AreInOrder R cs → HaveEntries cs → AreBelow R k (get_or cs n d) → AreBelow R k (joined cs)
  below_by_last [] n d long sorted have above = absurd (omega (arith, long))
  below_by_last (c ∷ []) zero d long sorted have above = all_both (λ e. R k e.0 ≡ Greater) c [] above tt
  below_by_last (c ∷ []) (suc n) d long sorted have above = absurd (omega (arith, long))
  below_by_last (c ∷ b ∷ cs) zero d long sorted have above = absurd (omega (arith, long))
  below_by_last (c ∷ [] ∷ cs) (suc n) d long sorted have above = absurd (have.1.0 refl)
  below_by_last (c ∷ (f ∷ fs) ∷ cs) (suc n) d long sorted have above =
      let rest = below_by_last ((f ∷ fs) ∷ cs) n d (omega (arith, long)) (sorted_back R c (joined ((f ∷ fs) ∷ cs)) sorted) have.1 above in
      all_both (λ e. R k e.0 ≡ Greater) c (joined ((f ∷ fs) ∷ cs)) (before_first c f (fs ++ joined cs) sorted (ap is_ge rest.0)) rest

  -- ---- one entry there
  none_below : (es : List (K × V)) → AreBelow R k es → NonePasses (is_at (R k)) es
  none_below es above = all_more (λ e. R k e.0 ≡ Greater) (λ e. is_at (R k) e.0 ≡ false) (λ e is. ap is_eq is) es above

  none_above : (es : List (K × V)) → AreAbove R k es → NonePasses (is_at (R k)) es
  none_above es below = all_more (λ e. R k e.0 ≡ Less) (λ e. is_at (R k) e.0 ≡ false) (λ e is. ap is_eq is) es below

  module _ (cs : List (List (K × V))) (i : ℕ) (place : IsPlace R k cs i) (c : List (K × V)) (here : c ≡ get_or cs i c) where
    whole : joined cs ≡ joined (take i cs) ++ (c ++ joined (drop (suc i) cs))
    whole = joined_at cs i c place.within ∙ ap (λ (b : List (K × V)). joined (take i cs) ++ (b ++ joined (drop (suc i) cs))) (sym here)

    pub place_lookup : lookup (is_at (R k)) c ≡ lookup (is_at (R k)) (joined cs)
    place_lookup = sym (ap (lookup (is_at (R k))) whole
        ∙ lookup_second (is_at (R k)) (joined (take i cs)) (c ++ joined (drop (suc i) cs)) (none_below (joined (take i cs)) place.before)
        ∙ lookup_first (is_at (R k)) c (joined (drop (suc i) cs)) (none_above (joined (drop (suc i) cs)) place.after))

    pub place_put : (v : V) → joined (set cs i (insert_entry R c k v)) ≡ insert_entry R (joined cs) k v
    place_put v = joined_set cs i (insert_entry R c k v) place.within
        ∙ sym (ap (λ (es : List (K × V)). insert_entry R es k v) whole
        ∙ insert_second R k v (joined (take i cs)) (c ++ joined (drop (suc i) cs)) place.before
        ∙ ap (λ (es : List (K × V)). joined (take i cs) ++ es) (insert_first R k v c (joined (drop (suc i) cs)) place.after))

    pub place_removed : joined (set cs i (remove_entry (is_at (R k)) c)) ≡ remove_entry (is_at (R k)) (joined cs)
    place_removed = joined_set cs i (remove_entry (is_at (R k)) c) place.within
        ∙ sym (ap (remove_entry (is_at (R k))) whole
        ∙ remove_second (is_at (R k)) (joined (take i cs)) (c ++ joined (drop (suc i) cs)) (none_below (joined (take i cs)) place.before)
        ∙ ap (λ (es : List (K × V)). joined (take i cs) ++ es) (remove_first (is_at (R k)) c (joined (drop (suc i) cs)) (none_above (joined (drop (suc i) cs)) place.after)))

  -- ---- one entry above all others
  pub below_lookup : (es : List (K × V)) → AreBelow R k es → lookup (is_at (R k)) es ≡ None
  below_lookup es above = lookup-none (is_at (R k)) es (none_below es above)

  pub below_put : (v : V) (es : List (K × V)) → AreBelow R k es → es ++ (k, v) ∷ [] ≡ insert_entry R es k v
  below_put v es above = sym (ap (λ (fs : List (K × V)). insert_entry R fs k v) (sym (append-nil es)) ∙ insert_second R k v es [] above)
