-- How totals follow the cases.
use Rattle.std.proofs.Common.{◌≡◌, ◌≢◌, ℕ, zero, suc, ◌+◌, ◌-◌, ◌≤◌, Bool, [], ◌∷◌, None, Some, refl, ap, sym, ◌∙◌, arith, zero-add}
use Rattle.std.specs.declared.option.Option.{Option}
use Rattle.std.specs.List.{sum_by}
use Rattle.std.proofs.lemmas.List.Sums.{sum_by-cons}
use Rattle.path_model.specs.declared.verdict.Verdict.{Verdict}
use Rattle.path_model.specs.declared.verdict.Verdict.TheVariants.{Valid, Unknown, Invalid}
use Rattle.path_model.specs.Trail.{Path}
use Rattle.ramps.specs.Judgement.{Judgement}
use Rattle.shared_cases.specs.declared.case.StoredCase.{StoredCase}
use Rattle.shared_cases.specs.declared.totals.Totals.{Totals}
use Rattle.shared_cases.specs.Cases.{Slots, at, Rewrites, marked_now}
use Rattle.shared_cases.specs.Owning.{owned_of}
use Rattle.shared_cases.specs.Taking.{lowered_by, new_case, raised, users_or}
use Rattle.shared_cases.specs.Totals.{is_valid, is_unknown, is_invalid, users_if, users_with, totals_of, no_users, users_of, share_of, one_user, some_users, plus, minus}

-- ---- sums over the cases, number by number

-- the cases from the second number on
abbrev rest_of : Slots → Slots
rest_of [] = []
rest_of (c ∷ cs) = cs

at_rest : (cases : Slots) (n : ℕ) → at (rest_of cases) n ≡ at cases (suc n)
at_rest [] n = refl
at_rest (c ∷ cs) n = refl

module _ (f : Option StoredCase → ℕ) (none : f None ≡ 0) where
  sum_split : (cases : Slots) → sum_by f cases ≡ f (at cases 0) + sum_by f (rest_of cases)
  sum_split [] = omega (arith, none)
  sum_split (c ∷ cs) = sum_by-cons f c cs

  sum_of_none : (cases : Slots) → ((m : ℕ) → f (at cases m) ≡ 0) → sum_by f cases ≡ 0
  sum_of_none [] each = refl
  sum_of_none (c ∷ cs) each =
      let here : f c ≡ 0 = each 0 in
      omega (arith, sum_by-cons f c cs, here, sum_of_none cs (λ m. each (suc m)))

  -- what is the same of each number has the same sum
  pub same_sum : (old new : Slots) → ((m : ℕ) → f (at old m) ≡ f (at new m)) → sum_by f old ≡ sum_by f new
  same_sum [] new same = sym (sum_of_none new (λ m. sym (same m) ∙ none))
  same_sum (c ∷ cs) new same =
      let here : f c ≡ f (at new 0) = same 0 in
      omega (arith, sum_by-cons f c cs, sum_split new, here, same_sum cs (rest_of new) (λ m. same (suc m) ∙ ap f (sym (at_rest new m))))

  -- where one number is rewritten, the sum changes by what is there
  pub rewritten_sum : (n : ℕ) (old new : Slots) (v : Option StoredCase) → Rewrites old new n v → sum_by f new + f (at old n) ≡ sum_by f old + f v
  rewritten_sum zero old new v writes =
      let later : sum_by f (rest_of new) ≡ sum_by f (rest_of old) =
      same_sum (rest_of new) (rest_of old) (λ m. ap f (at_rest new m ∙ writes.others (suc m) (λ e. omega (arith, e)) ∙ sym (at_rest old m))) in
      omega (arith, sum_split new, sum_split old, ap f writes.here, later)
  rewritten_sum (suc n) old new v writes =
      let first : f (at new 0) ≡ f (at old 0) = ap f (writes.others 0 (λ e. omega (arith, e))) in
      let rewrites : Rewrites (rest_of old) (rest_of new) n v = record {
        here = at_rest new n ∙ writes.here;
        others = λ m other. at_rest new m ∙ writes.others (suc m) (λ e. other (omega (arith, e))) ∙ sym (at_rest old m);
      } in
      omega (arith, sum_split new, sum_split old, first, ap f (at_rest old n), rewritten_sum n (rest_of old) (rest_of new) v rewrites)

-- ---- the shares of cases

split_users : (verdict : Verdict) (m k : ℕ) → users_of verdict (m + k) ≡ plus (users_of verdict m) (users_of verdict k)
split_users Valid m k = refl
split_users Unknown m k = refl
split_users Invalid m k = refl

alone : (verdict : Verdict) (m : ℕ) → users_of verdict m ≡ plus no_users (users_of verdict m)
alone Valid m = λ i. record { valid = sym (zero-add m) i; unknown = 0; invalid = 0 }
alone Unknown m = λ i. record { valid = 0; unknown = sym (zero-add m) i; invalid = 0 }
alone Invalid m = λ i. record { valid = 0; unknown = 0; invalid = sym (zero-add m) i }

raised_share : (c : Option StoredCase) → share_of (raised c) ≡ plus (share_of c) (one_user c)
raised_share None = refl
raised_share (Some c) = split_users c.judged.verdict c.users 1

lowered_share : (k : ℕ) (c : Option StoredCase) → k ≤ users_or c → share_of c ≡ plus (share_of (lowered_by k c)) (some_users k c)
lowered_share k None few = refl
lowered_share k (Some c) few =
    let fewer : c.users ≡ c.users - k + k = omega arith in
    ap (users_of c.judged.verdict) fewer ∙ split_users c.judged.verdict (c.users - k) k

valid_share : (c : Option StoredCase) → (share_of c).valid ≡ users_if is_valid c
valid_share None = refl
valid_share (Some c) = refl

unknown_share : (c : Option StoredCase) → (share_of c).unknown ≡ users_if is_unknown c
unknown_share None = refl
unknown_share (Some c) = refl

invalid_share : (c : Option StoredCase) → (share_of c).invalid ≡ users_if is_invalid c
invalid_share None = refl
invalid_share (Some c) = refl

abbrev valid_in : Totals → ℕ
valid_in t = t.valid

abbrev unknown_in : Totals → ℕ
unknown_in t = t.unknown

abbrev invalid_in : Totals → ℕ
invalid_in t = t.invalid

-- ---- one number is rewritten
module _ (old new : Slots) (n : ℕ) (v : Option StoredCase) (writes : Rewrites old new n v) where
  module _ (is : Verdict → Bool) (t s before after : ℕ) (was : t ≡ users_with is old) (before_is : before ≡ users_if is (at old n)) (after_is : after ≡ users_if is v) where
    by_sums : users_with is new + users_if is (at old n) ≡ users_with is old + users_if is v
    by_sums = rewritten_sum (users_if is) refl n old new v writes

    one_more : after ≡ before + s → t + s ≡ users_with is new
    one_more more = omega (arith, by_sums, was, before_is, after_is, more)

    one_less : before ≡ after + s → t - s ≡ users_with is new
    one_less less = omega (arith, by_sums, was, before_is, after_is, less)

    one_moved : t + after - before ≡ users_with is new
    one_moved = omega (arith, by_sums, was, before_is, after_is)

  module _ (t : Totals) (was : t ≡ totals_of old) where
    pub totals_more : (s : Totals) → share_of v ≡ plus (share_of (at old n)) s → plus t s ≡ totals_of new
    totals_more s more = λ i. record {
      valid = one_more is_valid t.valid s.valid (share_of (at old n)).valid (share_of v).valid (ap valid_in was) (valid_share (at old n)) (valid_share v) (ap valid_in more) i;
      unknown = one_more is_unknown t.unknown s.unknown (share_of (at old n)).unknown (share_of v).unknown (ap unknown_in was) (unknown_share (at old n)) (unknown_share v) (ap unknown_in more) i;
      invalid = one_more is_invalid t.invalid s.invalid (share_of (at old n)).invalid (share_of v).invalid (ap invalid_in was) (invalid_share (at old n)) (invalid_share v) (ap invalid_in more) i;
    }

    pub totals_less : (s : Totals) → share_of (at old n) ≡ plus (share_of v) s → minus t s ≡ totals_of new
    totals_less s less = λ i. record {
      valid = one_less is_valid t.valid s.valid (share_of (at old n)).valid (share_of v).valid (ap valid_in was) (valid_share (at old n)) (valid_share v) (ap valid_in less) i;
      unknown = one_less is_unknown t.unknown s.unknown (share_of (at old n)).unknown (share_of v).unknown (ap unknown_in was) (unknown_share (at old n)) (unknown_share v) (ap unknown_in less) i;
      invalid = one_less is_invalid t.invalid s.invalid (share_of (at old n)).invalid (share_of v).invalid (ap invalid_in was) (invalid_share (at old n)) (invalid_share v) (ap invalid_in less) i;
    }

    pub totals_moved : minus (plus t (share_of v)) (share_of (at old n)) ≡ totals_of new
    totals_moved = λ i. record {
      valid = one_moved is_valid t.valid 0 (share_of (at old n)).valid (share_of v).valid (ap valid_in was) (valid_share (at old n)) (valid_share v) i;
      unknown = one_moved is_unknown t.unknown 0 (share_of (at old n)).unknown (share_of v).unknown (ap unknown_in was) (unknown_share (at old n)) (unknown_share v) i;
      invalid = one_moved is_invalid t.invalid 0 (share_of (at old n)).invalid (share_of v).invalid (ap invalid_in was) (invalid_share (at old n)) (invalid_share v) i;
    }

-- ---- what is done to one case
module _ (old new : Slots) (n : ℕ) (t next s : Totals) (was : t ≡ totals_of old) where
  pub raised_totals : Rewrites old new n (raised (at old n)) → s ≡ one_user (at old n) → next ≡ plus t s → next ≡ totals_of new
  raised_totals writes one is = is ∙ totals_more old new n (raised (at old n)) writes t was s (raised_share (at old n) ∙ ap (plus (share_of (at old n))) (sym one))

  pub lowered_totals : (k : ℕ) → Rewrites old new n (lowered_by k (at old n)) → k ≤ users_or (at old n) → s ≡ some_users k (at old n) → next ≡ minus t s → next ≡ totals_of new
  lowered_totals k writes few some is =
      is ∙ totals_less old new n (lowered_by k (at old n)) writes t was s (lowered_share k (at old n) few ∙ ap (plus (share_of (lowered_by k (at old n)))) (sym some))

  pub totals_gone : (c : StoredCase) → Rewrites old new n None → at old n ≡ Some c → s ≡ users_of c.judged.verdict c.users → next ≡ minus t s → next ≡ totals_of new
  totals_gone c writes here all is =
      is ∙ totals_less old new n None writes t was s (ap share_of here ∙ alone c.judged.verdict c.users ∙ ap (plus no_users) (sym all))

  pub totals_come : (asn : ℕ) (path : Path) (judgement : Judgement) (own : Bool) → Rewrites old new n (Some (new_case asn path judgement own)) → at old n ≡ None
      → s ≡ users_of judgement.verdict 1 → next ≡ plus t s → next ≡ totals_of new
  totals_come asn path judgement own writes vacant one is =
      is ∙ totals_more old new n (Some (new_case asn path judgement own)) writes t was s
      (alone judgement.verdict 1 ∙ ap (plus no_users) (sym one) ∙ ap (λ (o : Option StoredCase). plus (share_of o) s) (sym vacant))

-- a case is judged anew
pub rejudged_totals : (old new : Slots) (n : ℕ) (t more next before after : Totals) (was is : Verdict) (users : ℕ) → ((m : ℕ) → m ≢ n → at new m ≡ at old m)
    → share_of (at old n) ≡ users_of was users → share_of (at new n) ≡ users_of is users → before ≡ users_of was users → after ≡ users_of is users
    → more ≡ plus t after → next ≡ minus more before → t ≡ totals_of old → next ≡ totals_of new
rejudged_totals old new n t more next before after was is users others old_share new_share before_is after_is more_is next_is counted =
    next_is ∙ ap (λ (u : Totals). minus u before) more_is ∙ ap (λ (u : Totals). minus (plus t u) before) (after_is ∙ sym new_share)
    ∙ ap (minus (plus t (share_of (at new n)))) (before_is ∙ sym old_share) ∙ totals_moved old new n (at new n) (record { here = refl; others = others }) t counted

-- what changes neither verdicts nor users changes no totals
module _ (done : Option StoredCase → Option StoredCase) (users : (is : Verdict → Bool) (c : Option StoredCase) → users_if is (done c) ≡ users_if is c) where
  done_totals : (old new : Slots) → ((n : ℕ) → at new n ≡ done (at old n)) → totals_of old ≡ totals_of new
  done_totals old new are = λ i. record { valid = same is_valid i; unknown = same is_unknown i; invalid = same is_invalid i } where
    same : (is : Verdict → Bool) → users_with is old ≡ users_with is new
    same is = same_sum (users_if is) refl old new (λ m. sym (users is (at old m)) ∙ ap (users_if is) (sym (are m)))

marked_users : (is : Verdict → Bool) (c : Option StoredCase) → users_if is (marked_now c) ≡ users_if is c
marked_users is None = refl
marked_users is (Some c) = refl

pub marked_totals : (old new : Slots) → ((n : ℕ) → at new n ≡ marked_now (at old n)) → totals_of old ≡ totals_of new
marked_totals = done_totals marked_now marked_users

owned_users : (asn : ℕ) (is : Verdict → Bool) (c : Option StoredCase) → users_if is (owned_of asn c) ≡ users_if is c
owned_users asn is None = refl
owned_users asn is (Some c) = refl

pub owned_totals : (asn : ℕ) (old new : Slots) → ((n : ℕ) → at new n ≡ owned_of asn (at old n)) → totals_of old ≡ totals_of new
owned_totals asn = done_totals (owned_of asn) (owned_users asn)
