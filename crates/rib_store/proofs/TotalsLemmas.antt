-- What the cases count by verdict is what the rows count.
use Rattle.std.proofs.Common.{◌≡◌, ℕ, zero, suc, ◌+◌, Bool, true, false, cond, List, [], ◌∷◌, length, refl, ap, sym, subst, ◌∙◌, arith, inl, inr}
use Rattle.std.specs.declared.option.Option.{Option}
use Rattle.std.specs.declared.option.Option.TheVariants.{Some, None}
use Rattle.std.specs.List.{count_by, sum_by}
use Rattle.std.specs.List.Sorted.{IsStrictlySortedBy}
use Rattle.std.specs.Map.{keys_of, values_of}
use Rattle.std.proofs.lemmas.List.Sums.{sum_by-cons}
use Rattle.path_model.specs.declared.key.Key.{Key}
use Rattle.path_model.specs.declared.verdict.Verdict.{Verdict}
use Rattle.attestations.specs.CurrentTable.{Parts}
use Rattle.path_model.specs.Key.{key_cmp}
use Rattle.path_model.specs.Roles.{Relations}
use Rattle.shared_cases.specs.declared.case.StoredCase.{StoredCase}
use Rattle.shared_cases.specs.declared.totals.Totals.{Totals}
use Rattle.shared_cases.specs.Cases.{Slots, at, verdict_or}
use Rattle.shared_cases.specs.Grounds.{Grounds}
use Rattle.rib_store.specs.Grounds.{grounds}
use Rattle.shared_cases.specs.Totals.{is_valid, is_unknown, is_invalid, users_if, users_with, totals_of}
use Rattle.shared_cases.proofs.NumberLemmas.{decide_eq}
use Rattle.rib_store.specs.Cased.{Numbered, through, routes_by, one, IsCounted, AreStored}
use Rattle.rib_store.specs.Counts.{AreCounts, counted, counts_by}
use Rattle.rib_store.specs.State.{Marked}
use Rattle.rib_store.proofs.CasedLemmas.{through_length}
use Rattle.rib_store.proofs.CountedLemmas.{one-same, one-other}
use Rattle.rib_store.proofs.VerdictLemmas.{stored_rows}

-- ---- numbers of cases, and the same numbers for the cases behind the first

-- how often the number stands there
abbrev times : List ℕ → ℕ → ℕ
times numbers n = sum_by (one n) numbers

-- those that aren't 0, each one less
abbrev later : List ℕ → List ℕ
later [] = []
later (zero ∷ numbers) = later numbers
later (suc n ∷ numbers) = n ∷ later numbers

one_is : (n m : ℕ) → m ≡ n → one n m ≡ 1
one_is n m same = ap (one n) same ∙ one-same n

one_next : (n m : ℕ) → one (suc n) (suc m) ≡ one n m
one_next n m = elim (decide_eq m n) [
  | inl same ↦ one_is (suc n) (suc m) (ap suc same) ∙ sym (one_is n m same)
  | inr other ↦ one-other (suc n) (suc m) (λ same. other (omega (arith, same))) ∙ sym (one-other n m other)
]

one_first : (n : ℕ) → one (suc n) zero ≡ 0
one_first n = one-other (suc n) zero (λ same. omega (arith, same))

one_later : (n : ℕ) → one zero (suc n) ≡ 0
one_later n = one-other zero (suc n) (λ same. omega (arith, same))

times_later : (numbers : List ℕ) (n : ℕ) → times (later numbers) n ≡ times numbers (suc n)
times_later [] n = refl
times_later (zero ∷ numbers) n = omega (arith, times_later numbers n, sum_by-cons (one (suc n)) zero numbers, one_first n)
times_later (suc m ∷ numbers) n =
    omega (arith, times_later numbers n, sum_by-cons (one n) m (later numbers), sum_by-cons (one (suc n)) (suc m) numbers, one_next n m)

-- ---- what numbers count is what the first case counts and what the others do

one_more : (b : Bool) (u v t : ℕ) → v ≡ 1 + u → cond b 1 0 + (cond b u 0 + t) ≡ cond b v 0 + t
one_more true u v t e = omega (arith, e)
one_more false u v t e = omega arith

none_more : (b : Bool) (u v w t : ℕ) → v ≡ u → w + (cond b u 0 + t) ≡ cond b v 0 + (w + t)
none_more true u v w t e = omega (arith, e)
none_more false u v w t e = omega arith

none_at : (b : Bool) → 0 ≡ cond b 0 0 + 0
none_at true = refl
none_at false = refl

module _ (f : Option StoredCase → Bool) where
  -- how many of the numbers are of such a case
  abbrev such : Slots → List ℕ → ℕ
  such cases numbers = count_by (λ n. f (at cases n)) numbers

  such_next : (cases : Slots) (n : ℕ) (numbers : List ℕ) → such cases (n ∷ numbers) ≡ cond (f (at cases n)) 1 0 + such cases numbers
  such_next cases n numbers = sum_by-cons (λ m. cond (f (at cases m)) 1 0) n numbers

  such_first : (c : Option StoredCase) (cases : Slots) (numbers : List ℕ) → such (c ∷ cases) numbers ≡ cond (f c) (times numbers 0) 0 + such cases (later numbers)
  such_first c cases [] = none_at (f c)
  such_first c cases (zero ∷ numbers) =
      such_next (c ∷ cases) zero numbers ∙ ap (λ (k : ℕ). cond (f c) 1 0 + k) (such_first c cases numbers)
      ∙ one_more (f c) (times numbers 0) (times (zero ∷ numbers) 0) (such cases (later numbers)) (omega (arith, sum_by-cons (one 0) zero numbers, one-same 0))
  such_first c cases (suc n ∷ numbers) =
      such_next (c ∷ cases) (suc n) numbers ∙ ap (λ (k : ℕ). cond (f (at cases n)) 1 0 + k) (such_first c cases numbers)
      ∙ none_more (f c) (times numbers 0) (times (suc n ∷ numbers) 0) (cond (f (at cases n)) 1 0) (such cases (later numbers))
      (omega (arith, sum_by-cons (one 0) (suc n) numbers, one_later n))
      ∙ ap (λ (k : ℕ). cond (f c) (times (suc n ∷ numbers) 0) 0 + k) (sym (such_next cases n (later numbers)))

-- ---- by verdict

none_users : (b : Bool) (u : ℕ) → u ≡ 0 → cond b u 0 ≡ 0
none_users true u e = e
none_users false u e = refl

module _ (is : Verdict → Bool) where
  case_users : (c : Option StoredCase) (users : ℕ) → IsCounted c users → cond (is (verdict_or c)) users 0 ≡ users_if is c
  case_users None users none = none_users (is (verdict_or None)) users none
  case_users (Some c) users counts = ap (λ (u : ℕ). cond (is c.judged.verdict) u 0) (sym counts.0)

  -- where the cases count these numbers
  numbers_counted : (cases : Slots) (numbers : List ℕ) → ((n : ℕ) → IsCounted (at cases n) (times numbers n)) → such (λ c. is (verdict_or c)) cases numbers ≡ users_with is cases
  numbers_counted [] [] counts = refl
  numbers_counted [] (n ∷ numbers) counts = absurd (omega (arith, counts n, sum_by-cons (one n) n numbers, one-same n))
  numbers_counted (c ∷ cases) numbers counts =
      such_first (λ o. is (verdict_or o)) c cases numbers
      ∙ ap (λ (k : ℕ). k + such (λ o. is (verdict_or o)) cases (later numbers)) (case_users c (times numbers 0) (counts 0))
      ∙ ap (λ (k : ℕ). users_if is c + k) (numbers_counted cases (later numbers) (λ n. subst (λ (u : ℕ). IsCounted (at cases n) u) (sym (times_later numbers n)) (counts (suc n))))
      ∙ sym (sum_by-cons (users_if is) c cases)

  rows_counted : (cases : Slots) (routes : Numbered)
      → count_by (λ (row : Key × Verdict). is row.1) (through verdict_or cases routes) ≡ such (λ c. is (verdict_or c)) cases (values_of routes)
  rows_counted cases [] = refl
  rows_counted cases (e ∷ es) =
      sum_by-cons (λ (row : Key × Verdict). cond (is row.1) 1 0) (e.0, verdict_or (at cases e.1)) (through verdict_or cases es)
      ∙ ap (λ (k : ℕ). cond (is (verdict_or (at cases e.1))) 1 0 + k) (rows_counted cases es)
      ∙ sym (such_next (λ c. is (verdict_or c)) cases e.1 (values_of es))

  -- the routes of the cases with such a verdict are the rows with such a one
  pub totals_counted : (g : Grounds) (routes : Numbered) (cases : Slots) → AreStored g routes cases
      → users_with is cases ≡ count_by (λ (row : Key × Verdict). is row.1) (through verdict_or cases routes)
  totals_counted g routes cases stored = sym (rows_counted cases routes ∙ numbers_counted cases (values_of routes) stored.counted)

-- ---- the counts of a store

module _ (parts : Parts) (relations : Relations) (routes : Numbered) (cases : Slots) (stored : AreStored (grounds parts relations) routes cases) where
  counts_are : (number : ℕ) (totals : Totals) → number ≡ length routes → totals ≡ totals_of cases → counts_by number totals ≡ counted (through verdict_or cases routes)
  counts_are number totals long is = λ i. record {
    routes = (long ∙ sym (through_length verdict_or cases routes)) i;
    valid = (ap (λ (t : Totals). t.valid) is ∙ totals_counted is_valid (grounds parts relations) routes cases stored) i;
    unknown = (ap (λ (t : Totals). t.unknown) is ∙ totals_counted is_unknown (grounds parts relations) routes cases stored) i;
    invalid = (ap (λ (t : Totals). t.invalid) is ∙ totals_counted is_invalid (grounds parts relations) routes cases stored) i;
  }

  pub stored_counts : IsStrictlySortedBy key_cmp (keys_of routes) → (marked : Marked) (number : ℕ) (totals : Totals) → number ≡ length routes → totals ≡ totals_of cases
      → AreCounts (record { parts = parts; roles = relations; routes = routes_by cases routes; marked = marked }) (counts_by number totals)
  stored_counts sorted marked number totals long is = record {
    rows = through verdict_or cases routes;
    are = stored_rows parts relations routes cases stored sorted marked;
    counted = counts_are number totals long is;
  }
