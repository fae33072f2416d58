-- A number more and one less in a rising list by its place there, and as an entry of a map whose keys are the numbers.
use Rattle.std.proofs.Common.{◌≡◌, ℕ, zero, suc, Bool, true, false, cond, List, [], ◌∷◌, ◌++◌, length, drop, get_or, ◌<◌, arith, refl, ap, sym, subst, append_assoc, ◌∙◌}
use Rattle.std.specs.declared.cmp.Ordering.{Ordering}
use Rattle.std.specs.declared.cmp.Ordering.TheVariants.{Less, Equal, Greater}
use Rattle.std.specs.BTreeMap.{insert_entry, is_at}
use Rattle.std.specs.BTreeSet.{insert_key}
use Rattle.std.specs.List.{AllByRecursion, insert, remove}
use Rattle.std.specs.List.Sorted.{IsStrictlySortedBy}
use Rattle.std.specs.Map.{keys_of, remove_entry}
use Rattle.std.specs.Ordering.{nat_cmp, match_ordering, ordering_reverse, is_eq}
use Rattle.std.specs.Set.{remove_key}
use Rattle.std.proofs.lemmas.Cmp.{nat_cmp_total}
use Rattle.hop_index.specs.Held.{AreBelow}
use Rattle.sorted_map.specs.Chunk.{HasAt, IsGap}

-- ---- by the place
module _ (number : ℕ) where
  more : (x : ℕ) (xs : List ℕ) (o : Ordering) → nat_cmp number x ≡ o
      → match_ordering o (number ∷ x ∷ xs) (x ∷ xs) (x ∷ insert_key nat_cmp xs number) ≡ insert_key nat_cmp (x ∷ xs) number
  more x xs o is = sym (ap (λ (p : Ordering). match_ordering p (number ∷ x ∷ xs) (x ∷ xs) (x ∷ insert_key nat_cmp xs number)) is)

  less : (x : ℕ) (xs : List ℕ) (o : Ordering) → nat_cmp number x ≡ o
      → cond (is_eq o) xs (x ∷ remove_key (is_at (nat_cmp number)) xs) ≡ remove_key (is_at (nat_cmp number)) (x ∷ xs)
  less x xs o is = sym (ap (λ (p : Ordering). cond (is_eq p) xs (x ∷ remove_key (is_at (nat_cmp number)) xs)) is)

  pub above_all : (xs : List ℕ) → AreBelow number xs → xs ++ number ∷ [] ≡ insert_key nat_cmp xs number
  above_all [] below = refl
  above_all (x ∷ xs) below = ap (λ (ys : List ℕ). x ∷ ys) (above_all xs below.1) ∙ more x xs Greater below.0

  pub inserted_at : (xs : List ℕ) (place : ℕ) → IsGap nat_cmp number xs place → insert xs place number ≡ insert_key nat_cmp xs number
  inserted_at [] zero gap = refl
  inserted_at (x ∷ xs) zero gap = more x xs Less gap.0
  inserted_at [] (suc place) gap = absurd gap
  inserted_at (x ∷ xs) (suc place) gap = ap (λ (ys : List ℕ). x ∷ ys) (inserted_at xs place gap.1) ∙ more x xs Greater gap.0

  pub there_at : (xs : List ℕ) (place : ℕ) → HasAt nat_cmp number xs place → xs ≡ insert_key nat_cmp xs number
  there_at [] place has = absurd has
  there_at (x ∷ xs) zero has = more x xs Equal has
  there_at (x ∷ xs) (suc place) has = ap (λ (ys : List ℕ). x ∷ ys) (there_at xs place has.1) ∙ more x xs Greater has.0

  pub removed_at : (xs : List ℕ) (place : ℕ) → HasAt nat_cmp number xs place → remove xs place ≡ remove_key (is_at (nat_cmp number)) xs
  removed_at [] place has = absurd has
  removed_at (x ∷ xs) zero has = less x xs Equal has
  removed_at (x ∷ xs) (suc place) has = ap (λ (ys : List ℕ). x ∷ ys) (removed_at xs place has.1) ∙ less x xs Greater has.0

  none_below : (xs : List ℕ) → AllByRecursion (λ x. nat_cmp number x ≡ Less) xs → xs ≡ remove_key (is_at (nat_cmp number)) xs
  none_below [] below = refl
  none_below (x ∷ xs) below = ap (λ (ys : List ℕ). x ∷ ys) (none_below xs below.1) ∙ less x xs Less below.0

  pub absent_at : (xs : List ℕ) (place : ℕ) → IsGap nat_cmp number xs place → xs ≡ remove_key (is_at (nat_cmp number)) xs
  absent_at xs zero gap = none_below xs gap
  absent_at [] (suc place) gap = absurd gap
  absent_at (x ∷ xs) (suc place) gap = ap (λ (ys : List ℕ). x ∷ ys) (absent_at xs place gap.1) ∙ less x xs Greater gap.0

-- ---- as entries
module _ {V : Type 0} where
  pub keys_inserted : (es : List (ℕ × V)) (number : ℕ) (v : V) → keys_of (insert_entry nat_cmp es number v) ≡ insert_key nat_cmp (keys_of es) number
  keys_inserted [] number v = refl
  keys_inserted (e ∷ es) number v = by_order (nat_cmp number e.0) (keys_inserted es number v) where
    by_order : (o : Ordering) → keys_of (insert_entry nat_cmp es number v) ≡ insert_key nat_cmp (keys_of es) number
        → keys_of (match_ordering o ((number, v) ∷ e ∷ es) ((e.0, v) ∷ es) (e ∷ insert_entry nat_cmp es number v))
        ≡ match_ordering o (number ∷ e.0 ∷ keys_of es) (e.0 ∷ keys_of es) (e.0 ∷ insert_key nat_cmp (keys_of es) number)
    by_order Less rest = refl
    by_order Equal rest = refl
    by_order Greater rest = ap (λ (ys : List ℕ). e.0 ∷ ys) rest

  pub keys_removed : (es : List (ℕ × V)) (test : ℕ → Bool) → keys_of (remove_entry test es) ≡ remove_key test (keys_of es)
  keys_removed [] test = refl
  keys_removed (e ∷ es) test = by_case (test e.0) (keys_removed es test) where
    by_case : (b : Bool) → keys_of (remove_entry test es) ≡ remove_key test (keys_of es)
        → keys_of (cond b es (e ∷ remove_entry test es)) ≡ cond b (keys_of es) (e.0 ∷ remove_key test (keys_of es))
    by_case true rest = refl
    by_case false rest = ap (λ (ys : List ℕ). e.0 ∷ ys) rest

-- ---- one after another
at_seam : (x number : ℕ) (xs rest : List ℕ) → AllByRecursion (λ y. nat_cmp x y ≡ Less) (xs ++ number ∷ rest) → nat_cmp number x ≡ Greater
at_seam x number [] rest all = nat_cmp_total.antisymm number x ∙ ap ordering_reverse all.0
at_seam x number (y ∷ ys) rest all = at_seam x number ys rest all.1

seam_above : (xs : List ℕ) (number : ℕ) (rest : List ℕ) → IsStrictlySortedBy nat_cmp (xs ++ number ∷ rest) → AreBelow number xs
unfolding IsStrictlySortedBy
seam_above [] number rest sorted = tt
seam_above (x ∷ xs) number rest sorted = (at_seam x number xs rest sorted.0, seam_above xs number rest sorted.1)

pub appended : (xs : List ℕ) (number : ℕ) (rest : List ℕ) → IsStrictlySortedBy nat_cmp (xs ++ number ∷ rest) → insert_key nat_cmp xs number ≡ xs ++ number ∷ []
appended xs number rest sorted = sym (above_all number xs (seam_above xs number rest sorted))

pub next_dropped : (numbers : List ℕ) (i d : ℕ) → i < length numbers → drop i numbers ≡ get_or numbers i d ∷ drop (suc i) numbers
next_dropped [] i d within = absurd (omega (arith, within))
next_dropped (x ∷ xs) zero d within = refl
next_dropped (x ∷ xs) (suc i) d within = next_dropped xs i d (omega (arith, within))

pub taken_over : {V : Type 0} (es : List (ℕ × V)) (number : ℕ) (v : V) (numbers : List ℕ) (i j : ℕ) → j ≡ suc i → IsStrictlySortedBy nat_cmp numbers → keys_of es ++ drop i numbers ≡ numbers
    → drop i numbers ≡ number ∷ drop (suc i) numbers → keys_of (insert_entry nat_cmp es number v) ++ drop j numbers ≡ numbers
taken_over es number v numbers i j one_on sorted so_far next =
    let whole : keys_of es ++ number ∷ drop (suc i) numbers ≡ numbers = ap (λ (ys : List ℕ). keys_of es ++ ys) (sym next) ∙ so_far in
    ap (λ (k : ℕ). keys_of (insert_entry nat_cmp es number v) ++ drop k numbers) one_on
    ∙ ap (λ (ys : List ℕ). ys ++ drop (suc i) numbers)
    (keys_inserted es number v ∙ appended (keys_of es) number (drop (suc i) numbers) (subst (IsStrictlySortedBy nat_cmp) (sym whole) sorted))
    ∙ append_assoc (keys_of es) (number ∷ []) (drop (suc i) numbers) ∙ whole
