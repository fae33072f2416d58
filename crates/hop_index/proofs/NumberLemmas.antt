-- Sets of numbers as rising lists: one number more, and one less.
use Rattle.std.proofs.Common.{◌≡◌, ◌≢◌, ℕ, nat_eq, Bool, true, false, cond, not, ◌||◌, ◌&&◌, List, [], ◌∷◌, refl, ap, sym, ◌∙◌, true≢false}
use Rattle.std.specs.declared.cmp.Ordering.{Ordering}
use Rattle.std.specs.declared.cmp.Ordering.TheVariants.{Less, Equal, Greater}
use Rattle.std.specs.BTreeMap.{is_at}
use Rattle.std.specs.BTreeSet.{insert_key}
use Rattle.std.specs.Cmp.{unsigned_tied, nat_cmp_is}
use Rattle.std.specs.List.{AllByRecursion}
use Rattle.std.specs.List.Sorted.{IsStrictlySortedBy}
use Rattle.std.specs.Ordering.{nat_cmp, match_ordering, ordering_reverse, is_eq}
use Rattle.std.specs.Set.{remove_key}
use Rattle.std.proofs.lemmas.Cmp.{nat_cmp_total}
use Rattle.std.proofs.lemmas.Map.Views.{exact_unsigned_eq}
use Rattle.hop_index.specs.Numbers.{has_number}

-- what holds of each, where one fact leads to the other
all_more : (P Q : ℕ → Type 0) → ((x : ℕ) → P x → Q x) → (xs : List ℕ) → AllByRecursion P xs → AllByRecursion Q xs
all_more P Q leads [] all = tt
all_more P Q leads (x ∷ xs) all = (leads x all.0, all_more P Q leads xs all.1)

-- ---- one more
or_none : (b : Bool) → (b || false) ≡ b
or_none true = refl
or_none false = refl

or_swapped : (a b : Bool) → (a || b) ≡ (b || a)
or_swapped true true = refl
or_swapped true false = refl
or_swapped false true = refl
or_swapped false false = refl

or_twice : (a b : Bool) → (a || b) ≡ ((a || b) || a)
or_twice true b = refl
or_twice false true = refl
or_twice false false = refl

or_moved : (a b c : Bool) → (a || (b || c)) ≡ ((a || b) || c)
or_moved true b c = refl
or_moved false b c = refl

same_number : (a b : ℕ) → nat_cmp a b ≡ Equal → a ≡ b
same_number a b is = exact_unsigned_eq a b (sym (unsigned_tied a b) ∙ ap is_eq is)

pub number_inserted : (number n : ℕ) (xs : List ℕ) → has_number (insert_key nat_cmp xs number) n ≡ (has_number xs n || nat_eq n number)
number_inserted number n [] = or_none (nat_eq n number)
number_inserted number n (x ∷ xs) = by_order (nat_cmp number x) refl (number_inserted number n xs) where
  by_order : (o : Ordering) → nat_cmp number x ≡ o → has_number (insert_key nat_cmp xs number) n ≡ (has_number xs n || nat_eq n number)
      → has_number (match_ordering o (number ∷ x ∷ xs) (x ∷ xs) (x ∷ insert_key nat_cmp xs number)) n ≡ ((nat_eq n x || has_number xs n) || nat_eq n number)
  by_order Less is rest = or_swapped (nat_eq n number) (nat_eq n x || has_number xs n)
  by_order Equal is rest = or_twice (nat_eq n x) (has_number xs n)
      ∙ ap (λ (y : ℕ). (nat_eq n x || has_number xs n) || nat_eq n y) (sym (same_number number x is))
  by_order Greater is rest = ap (λ (b : Bool). nat_eq n x || b) rest ∙ or_moved (nat_eq n x) (has_number xs n) (nat_eq n number)

pub some_inserted : (number : ℕ) (xs : List ℕ) → insert_key nat_cmp xs number ≢ []
some_inserted number [] = λ none. absurd cc
some_inserted number (x ∷ xs) = by_order (nat_cmp number x) where
  by_order : (o : Ordering) → match_ordering o (number ∷ x ∷ xs) (x ∷ xs) (x ∷ insert_key nat_cmp xs number) ≢ []
  by_order Less = λ none. absurd cc
  by_order Equal = λ none. absurd cc
  by_order Greater = λ none. absurd cc

all_inserted : (P : ℕ → Type 0) (number : ℕ) → P number → (xs : List ℕ) → AllByRecursion P xs → AllByRecursion P (insert_key nat_cmp xs number)
all_inserted P number holds [] all = (holds, tt)
all_inserted P number holds (x ∷ xs) all = by_order (nat_cmp number x) (all_inserted P number holds xs all.1) where
  by_order : (o : Ordering) → AllByRecursion P (insert_key nat_cmp xs number) → AllByRecursion P (match_ordering o (number ∷ x ∷ xs) (x ∷ xs) (x ∷ insert_key nat_cmp xs number))
  by_order Less rest = (holds, all)
  by_order Equal rest = all
  by_order Greater rest = (all.0, rest)

pub sorted_inserted : (number : ℕ) (xs : List ℕ) → IsStrictlySortedBy nat_cmp xs → IsStrictlySortedBy nat_cmp (insert_key nat_cmp xs number)
unfolding IsStrictlySortedBy
sorted_inserted number [] sorted = (tt, tt)
sorted_inserted number (x ∷ xs) sorted = by_order (nat_cmp number x) refl (sorted_inserted number xs sorted.1) where
  by_order : (o : Ordering) → nat_cmp number x ≡ o → IsStrictlySortedBy nat_cmp (insert_key nat_cmp xs number)
      → IsStrictlySortedBy nat_cmp (match_ordering o (number ∷ x ∷ xs) (x ∷ xs) (x ∷ insert_key nat_cmp xs number))
  by_order Less is rest = ((is, all_more (λ y. nat_cmp x y ≡ Less) (λ y. nat_cmp number y ≡ Less) (λ y. nat_cmp_total.trans number x y is) xs sorted.0), sorted)
  by_order Equal is rest = sorted
  by_order Greater is rest = (all_inserted (λ y. nat_cmp x y ≡ Less) number (nat_cmp_total.antisymm x number ∙ ap ordering_reverse is) xs sorted.0, rest)

-- ---- one more of few
again : (number : ℕ) (xs : List ℕ) → number ∷ xs ≡ insert_key nat_cmp (number ∷ xs) number
again number xs = ap (λ (o : Ordering). match_ordering o (number ∷ number ∷ xs) (number ∷ xs) (number ∷ insert_key nat_cmp xs number)) (nat_cmp_is number number Equal refl)

behind : (x number : ℕ) (xs ys : List ℕ) → nat_cmp x number ≡ Less → ys ≡ insert_key nat_cmp xs number → x ∷ ys ≡ insert_key nat_cmp (x ∷ xs) number
behind x number xs ys less is =
    ap (λ (zs : List ℕ). x ∷ zs) is
    ∙ ap (λ (o : Ordering). match_ordering o (number ∷ x ∷ xs) (x ∷ xs) (x ∷ insert_key nat_cmp xs number)) (sym (nat_cmp_total.antisymm number x ∙ ap ordering_reverse less))

module _ (a b c : ℕ) (sorted : IsStrictlySortedBy nat_cmp (a ∷ b ∷ c ∷ [])) where
  -- the number is one of them
  pub first_again : (number : ℕ) → number ≡ a → a ∷ b ∷ c ∷ [] ≡ insert_key nat_cmp (a ∷ b ∷ c ∷ []) number
  first_again number is = again a (b ∷ c ∷ []) ∙ ap (insert_key nat_cmp (a ∷ b ∷ c ∷ [])) (sym is)

  pub second_again : (number : ℕ) → number ≡ b → a ∷ b ∷ c ∷ [] ≡ insert_key nat_cmp (a ∷ b ∷ c ∷ []) number
  unfolding IsStrictlySortedBy
  second_again number is = behind a b (b ∷ c ∷ []) (b ∷ c ∷ []) sorted.0.0 (again b (c ∷ [])) ∙ ap (insert_key nat_cmp (a ∷ b ∷ c ∷ [])) (sym is)

  pub third_again : (number : ℕ) → number ≡ c → a ∷ b ∷ c ∷ [] ≡ insert_key nat_cmp (a ∷ b ∷ c ∷ []) number
  unfolding IsStrictlySortedBy
  third_again number is =
      behind a c (b ∷ c ∷ []) (b ∷ c ∷ []) sorted.0.1.0 (behind b c (c ∷ []) (c ∷ []) sorted.1.0.0 (again c []))
      ∙ ap (insert_key nat_cmp (a ∷ b ∷ c ∷ [])) (sym is)

  -- all of them, put in a tree one after another
  pub three_inserted : a ∷ b ∷ c ∷ [] ≡ insert_key nat_cmp (insert_key nat_cmp (insert_key nat_cmp [] a) b) c
  unfolding IsStrictlySortedBy
  three_inserted =
      behind a c (b ∷ []) (b ∷ c ∷ []) sorted.0.1.0 (behind b c [] (c ∷ []) sorted.1.0.0 refl)
      ∙ ap (λ (xs : List ℕ). insert_key nat_cmp xs c) (behind a b [] (b ∷ []) sorted.0.0 refl)

-- ---- one less
none_below : (number n : ℕ) (xs : List ℕ) → AllByRecursion (λ y. nat_cmp number y ≡ Less) xs → nat_eq n number ≡ true → has_number xs n ≡ false
none_below number n [] below this = refl
none_below number n (x ∷ xs) below this =
    let same : n ≡ number = exact_unsigned_eq n number this in
    let apart : nat_eq n x ≡ false = ap (λ (m : ℕ). nat_eq m x) same ∙ sym (unsigned_tied number x) ∙ ap is_eq below.0 in
    ap (λ (b : Bool). b || has_number xs n) apart ∙ none_below number n xs below.1 this

both_less : (a h m : Bool) → (m ≡ true → a ≡ false) → (a || (h && not m)) ≡ ((a || h) && not m)
both_less true h true apart = absurd (true≢false (apart refl))
both_less true h false apart = refl
both_less false h m apart = refl

first_less : (a h : Bool) → (a ≡ true → h ≡ false) → h ≡ ((a || h) && not a)
first_less true h apart = apart refl
first_less false true apart = refl
first_less false false apart = refl

pub number_removed : (number n : ℕ) (xs : List ℕ) → IsStrictlySortedBy nat_cmp xs
    → has_number (remove_key (is_at (nat_cmp number)) xs) n ≡ (has_number xs n && not (nat_eq n number))
unfolding IsStrictlySortedBy
number_removed number n [] sorted = refl
number_removed number n (x ∷ xs) sorted = by_order (nat_cmp number x) refl (number_removed number n xs sorted.1) where
  apart : is_eq (nat_cmp number x) ≡ false → nat_eq n number ≡ true → nat_eq n x ≡ false
  apart other this = ap (λ (m : ℕ). nat_eq m x) (exact_unsigned_eq n number this) ∙ sym (unsigned_tied number x) ∙ other

  by_order : (o : Ordering) → nat_cmp number x ≡ o → has_number (remove_key (is_at (nat_cmp number)) xs) n ≡ (has_number xs n && not (nat_eq n number))
      → has_number (cond (is_eq o) xs (x ∷ remove_key (is_at (nat_cmp number)) xs)) n ≡ ((nat_eq n x || has_number xs n) && not (nat_eq n number))
  by_order Less is rest = ap (λ (b : Bool). nat_eq n x || b) rest ∙ both_less (nat_eq n x) (has_number xs n) (nat_eq n number) (apart (ap is_eq is))
  by_order Equal is rest = first_less (nat_eq n x) (has_number xs n) (none_below x n xs sorted.0)
      ∙ ap (λ (y : ℕ). (nat_eq n x || has_number xs n) && not (nat_eq n y)) (sym (same_number number x is))
  by_order Greater is rest = ap (λ (b : Bool). nat_eq n x || b) rest ∙ both_less (nat_eq n x) (has_number xs n) (nat_eq n number) (apart (ap is_eq is))

all_removed : (P : ℕ → Type 0) (test : ℕ → Bool) (xs : List ℕ) → AllByRecursion P xs → AllByRecursion P (remove_key test xs)
all_removed P test [] all = tt
all_removed P test (x ∷ xs) all = by_case (test x) (all_removed P test xs all.1) where
  by_case : (b : Bool) → AllByRecursion P (remove_key test xs) → AllByRecursion P (cond b xs (x ∷ remove_key test xs))
  by_case true rest = all.1
  by_case false rest = (all.0, rest)

pub sorted_removed : (test : ℕ → Bool) (xs : List ℕ) → IsStrictlySortedBy nat_cmp xs → IsStrictlySortedBy nat_cmp (remove_key test xs)
unfolding IsStrictlySortedBy
sorted_removed test [] sorted = tt
sorted_removed test (x ∷ xs) sorted = by_case (test x) (sorted_removed test xs sorted.1) where
  by_case : (b : Bool) → IsStrictlySortedBy nat_cmp (remove_key test xs) → IsStrictlySortedBy nat_cmp (cond b xs (x ∷ remove_key test xs))
  by_case true rest = sorted.1
  by_case false rest = (all_removed (λ y. nat_cmp x y ≡ Less) test xs sorted.0, rest)
