-- Many users less at once.
use Rattle.std.proofs.Common.{◌≡◌, ◌≢◌, ℕ, zero, suc, nat_eq, ◌+◌, ◌-◌, ◌≤◌, ◌<◌, Bool, true, false, if◌then◌else◌, List, [], ◌∷◌, ◌++◌, None, Some, refl, ap, sym, ◌∙◌, arith, ◌⊎◌, inl, inr, true≢false}
use Rattle.std.specs.declared.option.Option.{Option}
use Rattle.std.specs.Cmp.{nat_eq_equiv}
use Rattle.std.proofs.lemmas.Bool.{cases_lt, le-ltb, lt-ltb, ltb-true}
use Rattle.std.proofs.lemmas.List.Sums.{sum_by_push}
use Rattle.shared_cases.specs.declared.case.StoredCase.{StoredCase}
use Rattle.shared_cases.specs.Cases.{Slots, at, Rewrites}
use Rattle.shared_cases.specs.Taking.{is_shared, left, left_times, lowered, lowered_by, times, users_or, TakesOut}
use Rattle.shared_cases.proofs.NumberLemmas.{decide_eq, nat_eq-other}

-- ---- what is left of a case

left_none : (k : ℕ) → left_times k None ≡ None
left_none zero = refl
left_none (suc k) = ap left (left_none k)

left_shared : (c : StoredCase) → 1 < c.users → left (Some c) ≡ Some (record c { users = c.users - 1 })
left_shared c many = ap (λ (b : Bool). if b then Some (record c { users = c.users - 1 }) else None) (lt-ltb 1 c.users many)

left_last : (c : StoredCase) → c.users ≤ 1 → left (Some c) ≡ None
left_last c few = ap (λ (b : Bool). if b then Some (record c { users = c.users - 1 }) else None) (le-ltb 1 c.users few)

-- while some are left, they are so many less,
left_lowered : (k : ℕ) (c : StoredCase) → k ≤ c.users - 1 → left_times k (Some c) ≡ Some (record c { users = c.users - k })
left_lowered zero c some =
    let all : c.users ≡ c.users - 0 = omega arith in
    ap (λ (u : ℕ). Some (record c { users = u })) all
left_lowered (suc k) c some =
    let fewer : c.users - k - 1 ≡ c.users - suc k = omega arith in
    ap left (left_lowered k c (omega arith)) ∙ left_shared (record c { users = c.users - k }) (omega arith) ∙ ap (λ (u : ℕ). Some (record c { users = u })) fewer

-- and the last one takes the case along
left_gone : (k : ℕ) (c : StoredCase) → 1 ≤ k → c.users ≤ k → left_times k (Some c) ≡ None
left_gone zero c some few = absurd (omega arith)
left_gone (suc k) c some few = elim (cases_lt (c.users - 1) k) [
  | inl before ↦ ap left (left_gone k c (omega arith) (omega arith))
  | inr last ↦ ap left (left_lowered k c last) ∙ left_last (record c { users = c.users - k }) (omega arith)
]

pub left_by : (k : ℕ) (c : Option StoredCase) → k < users_or c → lowered_by k c ≡ left_times k c
left_by k None some = sym (left_none k)
left_by k (Some c) some = sym (left_lowered k c (omega arith))

pub left_all : (k : ℕ) (c : Option StoredCase) → 1 ≤ k → users_or c ≤ k → None ≡ left_times k c
left_all k None some few = sym (left_none k)
left_all k (Some c) some few = sym (left_gone k c some few)

pub shared_some : (c : Option StoredCase) → is_shared c ≡ true → 1 ≤ users_or c
shared_some None shared = absurd (true≢false (sym shared))
shared_some (Some c) shared = omega (arith, ltb-true 1 c.users shared)

-- so many users less is one less, where they are one
pub lowered_one : (c : Option StoredCase) → lowered_by 1 c ≡ lowered c
lowered_one None = refl
lowered_one (Some c) = refl

left_both : (a b : ℕ) (c : Option StoredCase) → left_times (b + a) c ≡ left_times a (left_times b c)
left_both zero b c =
    let none : b + 0 ≡ b = omega arith in
    ap (λ (k : ℕ). left_times k c) none
left_both (suc a) b c =
    let one : b + suc a ≡ suc (b + a) = omega arith in
    ap (λ (k : ℕ). left_times k c) one ∙ ap left (left_both a b c)

-- ---- equal numbers at the end of a list

-- none,
pub takes_none : (numbers : List ℕ) (x k : ℕ) → k ≡ 0 → TakesOut numbers x k numbers
takes_none numbers x k none n = by (nat_eq x n) where
  by : (t : Bool) → times n numbers ≡ times n numbers + (if t then k else 0)
  by true = omega (arith, none)
  by false = omega arith

-- the last number,
pub takes_last : (before after : List ℕ) (x : ℕ) → before ≡ after ++ x ∷ [] → TakesOut before x 1 after
takes_last before after x e n = ap (times n) e ∙ sum_by_push (λ m. if nat_eq m n then 1 else 0) after x

-- and more of them
pub takes_both : (a b c : List ℕ) (x j k m : ℕ) → TakesOut a x j b → TakesOut b x k c → m ≡ j + k → TakesOut a x m c
takes_both a b c x j k m one more e n = by (nat_eq x n) (one n) (more n) where
  by : (t : Bool) → times n a ≡ times n b + (if t then j else 0) → times n b ≡ times n c + (if t then k else 0) → times n a ≡ times n c + (if t then m else 0)
  by true p q = omega (arith, e)
  by false p q = omega arith

-- so many routes leave a case, and its number stands so many times less among those to come
pub left_step : (old new : Slots) (x count : ℕ) (before after : List ℕ) → TakesOut before x count after → Rewrites old new x (left_times count (at old x))
    → (n : ℕ) → left_times (times n after) (at new n) ≡ left_times (times n before) (at old n)
left_step old new x count before after takes writes n = by (decide_eq n x) where
  by : (n ≡ x) ⊎ (n ≢ x) → left_times (times n after) (at new n) ≡ left_times (times n before) (at old n)
  by (inl e) =
      let often : count + times n after ≡ times n before =
      sym (takes n ∙ ap (λ (t : Bool). times n after + (if t then count else 0)) (ap (nat_eq x) e ∙ nat_eq_equiv.refl x) ∙ omega arith) in
      ap (λ (k : ℕ). left_times (times n after) (at new k)) e ∙ ap (left_times (times n after)) writes.here ∙ sym (left_both (times n after) count (at old x))
      ∙ ap (λ (k : ℕ). left_times k (at old x)) often ∙ ap (λ (k : ℕ). left_times (times n before) (at old k)) (sym e)
  by (inr other) =
      let often : times n after ≡ times n before =
      sym (takes n ∙ ap (λ (t : Bool). times n after + (if t then count else 0)) (nat_eq-other x n (λ e. other (sym e))) ∙ omega arith) in
      ap (left_times (times n after)) (writes.others n other) ∙ ap (λ (k : ℕ). left_times k (at old n)) often
