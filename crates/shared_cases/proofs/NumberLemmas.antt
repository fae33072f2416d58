-- Sets of numbers as sorted lists.
use Rattle.std.proofs.Common.{◌≡◌, ◌≢◌, ℕ, nat_eq, Bool, true, false, arith, cond, not, ◌||◌, ◌&&◌, List, ◌∷◌, Some, refl, ap, sym, ◌∙◌, ◌⊎◌, inl, inr}
use Rattle.std.specs.declared.option.Option.{Option}
use Rattle.std.specs.Option.{unwrap_or}
use Rattle.std.specs.BTreeMap.{is_at}
use Rattle.std.specs.Cmp.{unsigned_tied, nat_eq_equiv}
use Rattle.std.specs.List.{list_any}
use Rattle.std.specs.Ordering.{nat_cmp}
use Rattle.std.proofs.lemmas.Bool.{false_from_ne_true, or_cases, or_left, or_right}
use Rattle.std.proofs.lemmas.Map.Views.{exact_unsigned_eq}
use Rattle.shared_cases.specs.Numbers.{has}

has_at : (n : ℕ) (numbers : List ℕ) → list_any (is_at (nat_cmp n)) numbers ≡ has numbers n
has_at n numbers = ap (λ (f : ℕ → Bool). list_any f numbers) (λ i x. unsigned_tied n x i)

pub this_at : (number n : ℕ) → is_at (nat_cmp number) n ≡ nat_eq n number
this_at number n = unsigned_tied number n ∙ nat_eq_equiv.symm number n

or_cond : (a b : Bool) → cond a true b ≡ (b || a)
or_cond true true = refl
or_cond true false = refl
or_cond false true = refl
or_cond false false = refl

and_cond : (a b : Bool) → cond a false b ≡ (b && not a)
and_cond true true = refl
and_cond true false = refl
and_cond false true = refl
and_cond false false = refl

-- one number more
pub number_more : (before after : List ℕ) (number : ℕ) → ((q : ℕ) → list_any (is_at (nat_cmp q)) after ≡ cond (is_at (nat_cmp number) q) true (list_any (is_at (nat_cmp q)) before))
    → (n : ℕ) → has after n ≡ (has before n || nat_eq n number)
number_more before after number updates n =
    sym (has_at n after) ∙ updates n ∙ ap (λ (b : Bool). cond b true (list_any (is_at (nat_cmp n)) before)) (this_at number n)
    ∙ ap (cond (nat_eq n number) true) (has_at n before) ∙ or_cond (nat_eq n number) (has before n)

-- one number less
pub number_less : (before after : List ℕ) (number : ℕ) → ((q : ℕ) → list_any (is_at (nat_cmp q)) after ≡ cond (is_at (nat_cmp number) q) false (list_any (is_at (nat_cmp q)) before))
    → (n : ℕ) → has after n ≡ (has before n && not (nat_eq n number))
number_less before after number updates n =
    sym (has_at n after) ∙ updates n ∙ ap (λ (b : Bool). cond b false (list_any (is_at (nat_cmp n)) before)) (this_at number n)
    ∙ ap (cond (nat_eq n number) false) (has_at n before) ∙ and_cond (nat_eq n number) (has before n)

pub has_first : (n x : ℕ) (rest : List ℕ) → n ≡ x → has (x ∷ rest) n ≡ true
has_first n x rest e = or_left (nat_eq n x) (has rest n) (ap (nat_eq n) (sym e) ∙ nat_eq_equiv.refl n)

pub has_later : (n x : ℕ) (rest : List ℕ) → has rest n ≡ true → has (x ∷ rest) n ≡ true
has_later n x rest later = or_right (nat_eq n x) (has rest n) later

pub has_cases : (n x : ℕ) (rest : List ℕ) → has (x ∷ rest) n ≡ true → (n ≡ x) ⊎ (has rest n ≡ true)
has_cases n x rest there = elim (or_cases (nat_eq n x) (has rest n) there) [
  | inl here ↦ inl (exact_unsigned_eq n x here)
  | inr later ↦ inr later
]

-- equal or not
pub decide_eq : (m n : ℕ) → (m ≡ n) ⊎ (m ≢ n)
decide_eq m n = search arith

pub nat_eq-other : (n m : ℕ) → n ≢ m → nat_eq n m ≡ false
nat_eq-other n m other = false_from_ne_true (nat_eq n m) (λ e. other (exact_unsigned_eq n m e))

pub some_inj : (m n : ℕ) → Some m ≡ Some n → m ≡ n
some_inj m n e = ap (λ (o : Option ℕ). unwrap_or o 0) e
