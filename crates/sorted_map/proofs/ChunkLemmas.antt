-- What a chunk's entries come to at the place of a key.
use Rattle.std.proofs.Common.{◌≡◌, ℕ, zero, suc, ◌-◌, cond, List, [], ◌∷◌, ◌++◌, length, get_or, set, slice_get, None, Some, Result, Ok, Err, IsOk, is_ok, arith, refl, ap, sym, subst, ◌∙◌}
use Rattle.std.specs.declared.cmp.Ordering.{Ordering}
use Rattle.std.specs.BTreeMap.{insert_entry, is_at}
use Rattle.std.specs.List.{zip, insert, remove}
use Rattle.std.specs.List.Sorted.{IsStrictlySortedBy}
use Rattle.std.specs.Map.{keys_of, lookup, remove_entry}
use Rattle.std.proofs.lemmas.Map.{none_passes_from_lookup}
use Rattle.std.proofs.lemmas.Map.Made.{keys_of-zip}
use Rattle.sorted_map.specs.Chunk.{HasAt, IsGap}
use Rattle.sorted_map.proofs.BlockLemmas.{remove_first}
use Rattle.sorted_map.proofs.SearchLemmas.{lookup_has, lookup_gap, insert_has, insert_gap, remove_has}
use Rattle.sorted_map.proofs.ZipLemmas.{zip_length, zip_insert}

-- ---- how many there are
module _ {K V : Type 0} (ks : List K) (vs : List V) (es : List (K × V)) (view : zip ks vs ≡ es) (same : length vs ≡ length ks) where
  pub entry_count : length es ≡ length ks
  entry_count = sym (ap length view) ∙ zip_length ks vs same

  pub keys_are : keys_of es ≡ ks
  keys_are = sym (ap keys_of view) ∙ keys_of-zip ks vs same

-- what the search's slice holds is the chunk's keys
module _ {K V : Type 0} (R : K → K → Ordering) (k : K) (ks : List K) (vs : List V) (es : List (K × V)) (view : zip ks vs ≡ es) (same : length vs ≡ length ks)
    (ds : List K) (slice : ds ≡ ks) where
  pub sorted_keys : IsStrictlySortedBy R (keys_of es) → IsStrictlySortedBy R ds
  sorted_keys sorted = subst (IsStrictlySortedBy R) (keys_are ks vs es view same ∙ sym slice) sorted

  pub held_lookup : (i : ℕ) (d : V) → HasAt R k ds i → lookup (is_at (R k)) es ≡ Some (get_or vs i d)
  held_lookup i d has = sym (ap (lookup (is_at (R k))) view) ∙ lookup_has R k ks vs i d same (subst (λ (xs : List K). HasAt R k xs i) slice has)

  pub absent_lookup : (i : ℕ) → IsGap R k ds i → lookup (is_at (R k)) es ≡ None
  absent_lookup i gap = sym (ap (lookup (is_at (R k))) view) ∙ lookup_gap R k ks vs i (subst (λ (xs : List K). IsGap R k xs i) slice gap)

  pub held_put : (v : V) (i : ℕ) → HasAt R k ds i → zip ks (set vs i v) ≡ insert_entry R es k v
  held_put v i has = insert_has R k v ks vs i same (subst (λ (xs : List K). HasAt R k xs i) slice has) ∙ ap (λ (fs : List (K × V)). insert_entry R fs k v) view

  pub absent_put : (v : V) (i : ℕ) → IsGap R k ds i → insert es i (k, v) ≡ insert_entry R es k v
  absent_put v i gap =
      subst (λ (fs : List (K × V)). insert fs i (k, v) ≡ insert_entry R fs k v) view (insert_gap R k v ks vs i same (subst (λ (xs : List K). IsGap R k xs i) slice gap))

  pub held_removed : (i : ℕ) → HasAt R k ds i → zip (remove ks i) (remove vs i) ≡ remove_entry (is_at (R k)) es
  held_removed i has = remove_has R k ks vs i same (subst (λ (xs : List K). HasAt R k xs i) slice has) ∙ ap (remove_entry (is_at (R k))) view

  pub absent_kept : (i : ℕ) → IsGap R k ds i → es ≡ remove_entry (is_at (R k)) es
  absent_kept i gap = sym (remove_first (is_at (R k)) [] es (none_passes_from_lookup (is_at (R k)) es (absent_lookup i gap)))

module _ {K V : Type 0} (ks : List K) (vs : List V) (es : List (K × V)) (view : zip ks vs ≡ es) (same : length vs ≡ length ks) where
  pub insert_view : (i : ℕ) (k : K) (v : V) → zip (insert ks i k) (insert vs i v) ≡ insert es i (k, v)
  insert_view i k v = zip_insert i ks vs k v same ∙ ap (λ (fs : List (K × V)). insert fs i (k, v)) view

-- the last entry is the last key and the last value
pub last_of_both : {K V : Type 0} (ks : List K) (vs : List V) (n : ℕ) (k : K) (v : V) → length vs ≡ length ks → length ks ≡ suc n → k ≡ get_or ks n k → v ≡ get_or vs n v
    → Some (k, v) ≡ slice_get (zip ks vs) (length (zip ks vs) - 1)
last_of_both [] vs n k v same long key value = absurd (omega (arith, long))
last_of_both (x ∷ xs) [] n k v same long key value = absurd (omega (arith, same))
last_of_both (x ∷ []) (y ∷ ys) zero k v same long key value = ap (λ (z : _). Some (z, v)) key ∙ ap (λ (z : _). Some (x, z)) value
last_of_both (x ∷ []) (y ∷ ys) (suc n) k v same long key value = absurd (omega (arith, long))
last_of_both (x ∷ z ∷ xs) (y ∷ []) n k v same long key value = absurd (omega (arith, same))
last_of_both (x ∷ z ∷ xs) (y ∷ w ∷ ys) zero k v same long key value = absurd (omega (arith, long))
last_of_both (x ∷ z ∷ xs) (y ∷ w ∷ ys) (suc n) k v same long key value =
    let more : length (zip (x ∷ z ∷ xs) (y ∷ w ∷ ys)) - 1 ≡ suc (length (zip (z ∷ xs) (w ∷ ys)) - 1) = omega arith in
    last_of_both (z ∷ xs) (w ∷ ys) n k v (omega (arith, same)) (omega (arith, long)) key value ∙ sym (ap (λ (m : ℕ). slice_get (zip (x ∷ z ∷ xs) (y ∷ w ∷ ys)) m) more)

-- what was appended, where it could be
pub appended_is : {A T E : Type 0} (r : Result T E) (old more new : List A) → IsOk r → new ≡ cond (is_ok r) (old ++ more) old → new ≡ old ++ more
appended_is (Ok x) old more new done is = is
appended_is (Err e) old more new done is = absurd cc

pub both_appended : {K V : Type 0} (ks ls : List K) (vs ws : List V) → length vs ≡ length ks → zip (ks ++ ls) (vs ++ ws) ≡ zip ks vs ++ zip ls ws
both_appended [] ls [] ws same = refl
both_appended [] ls (v ∷ vs) ws same = absurd (omega (arith, same))
both_appended (k ∷ ks) ls [] ws same = absurd (omega (arith, same))
both_appended {K = K} {V = V} (k ∷ ks) ls (v ∷ vs) ws same = ap (λ (es : List (K × V)). (k, v) ∷ es) (both_appended ks ls vs ws (omega (arith, same)))
