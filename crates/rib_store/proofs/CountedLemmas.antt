-- How the cases count their keys.
use Rattle.std.proofs.Common.{◌≡◌, ◌≢◌, ℕ, ◌+◌, ◌<◌, Bool, true, false, cond, None, Some, refl, ap, sym, subst, ◌∙◌, arith, ◌⊎◌, inl, inr}
use Rattle.std.specs.Prelude.{nat_lt}
use Rattle.std.specs.declared.option.Option.{Option}
use Rattle.std.specs.BTreeMap.{is_at, insert_entry}
use Rattle.std.specs.Cmp.{nat_eq_equiv}
use Rattle.std.specs.List.Sorted.{IsStrictlySortedBy}
use Rattle.std.specs.Map.{lookup, keys_of, remove_entry}
use Rattle.std.specs.Option.{option_map, unwrap_or}
use Rattle.std.proofs.lemmas.Bool.{ltb-true, ltb-false}
use Rattle.std.proofs.lemmas.Map.Entries.{sum_by-insert_entry, sum_by-remove_entry}
use Rattle.path_model.specs.declared.key.Key.{Key}
use Rattle.path_model.specs.Key.{key_cmp}
use Rattle.path_model.specs.Order.{key_total}
use Rattle.path_model.specs.Trail.{Path}
use Rattle.ramps.specs.Judgement.{Judgement}
use Rattle.shared_cases.specs.declared.case.StoredCase.{StoredCase}
use Rattle.shared_cases.specs.Cases.{Slots, at, Rewrites, IsStoredAs}
use Rattle.shared_cases.specs.Grounds.{Grounds, has_own, IsRightJudgement}
use Rattle.shared_cases.specs.Taking.{raised, lowered, left, new_case, Takes}
use Rattle.shared_cases.proofs.NumberLemmas.{decide_eq, nat_eq-other}
use Rattle.rib_store.specs.Cased.{Numbered, one, users_of, IsCounted}
use Rattle.rib_store.specs.Steps.{Leaves}

pub one-same : (n : ℕ) → one n n ≡ 1
one-same n = ap (λ (b : Bool). cond b 1 0) (nat_eq_equiv.refl n)

pub one-other : (n m : ℕ) → m ≢ n → one n m ≡ 0
one-other n m other = ap (λ (b : Bool). cond b 1 0) (nat_eq-other m n other)

-- the users that a key was
abbrev pub ones : ℕ → Option ℕ → ℕ
ones n o = unwrap_or (option_map (one n) o) 0

pub users_inserted : (routes : Numbered) (k : Key) (m n : ℕ) → IsStrictlySortedBy key_cmp (keys_of routes) → users_of (insert_entry key_cmp routes k m) n + ones n (lookup (is_at (key_cmp k)) routes) ≡ users_of routes n + one n m
users_inserted routes k m n sorted = sum_by-insert_entry (one n) key_total routes k m sorted

pub users_removed : (routes : Numbered) (k : Key) (n : ℕ) → users_of (remove_entry (is_at (key_cmp k)) routes) n + ones n (lookup (is_at (key_cmp k)) routes) ≡ users_of routes n
users_removed routes k n = sum_by-remove_entry (one n) (is_at (key_cmp k)) routes

-- a case that a key has has users
pub users_positive : (routes : Numbered) (k : Key) (n : ℕ) → lookup (is_at (key_cmp k)) routes ≡ Some n → 0 < users_of routes n
users_positive routes k n here =
    let e = users_removed routes k n in
    let f : ones n (lookup (is_at (key_cmp k)) routes) ≡ 1 = ap (ones n) here ∙ one-same n in
    omega (arith, e, f)

-- ---- a case is taken

-- what holds of the case that is taken, and of the others
pub taken_each : (g : Grounds) (asn : ℕ) (path : Path) (old new : Slots) (n : ℕ) (P : ℕ → Option StoredCase → Type 0) → Takes g asn path old new n
    → (IsStoredAs (at old n) asn path → P n (raised (at old n))) → ((judgement : Judgement) → at old n ≡ None → IsRightJudgement g asn path judgement → P n (Some (new_case asn path judgement (has_own g.roles asn))))
    → ((j : ℕ) → j ≢ n → P j (at old j)) → (j : ℕ) → P j (at new j)
taken_each g asn path old new n P takes joined added others j = by takes (decide_eq j n) where
  written : (v : Option StoredCase) → Rewrites old new n v → P n v → (j ≡ n) ⊎ (j ≢ n) → P j (at new j)
  written v writes here (inl e) = subst (λ (i : ℕ). P i (at new i)) (sym e) (subst (P n) (sym writes.here) here)
  written v writes here (inr other) = subst (P j) (sym (writes.others j other)) (others j other)

  by : Takes g asn path old new n → (j ≡ n) ⊎ (j ≢ n) → P j (at new j)
  by (inl joins) same = written (raised (at old n)) joins.raised (joined joins.stored) same
  by (inr adds) same = written (Some (new_case asn path adds.judgement (has_own g.roles asn))) adds.added (added adds.judgement adds.vacant adds.right) same

raised_counted : (c : Option StoredCase) (asn : ℕ) (path : Path) (u v : ℕ) → IsStoredAs c asn path → IsCounted c u → v ≡ u + 1 → IsCounted (raised c) v
raised_counted None asn path u v stored counted e = absurd stored
raised_counted (Some c) asn path u v stored counted e = (omega (arith, counted.0, e), omega (arith, e))

none_counted : (c : Option StoredCase) (u : ℕ) → c ≡ None → IsCounted c u → u ≡ 0
none_counted c u vacant counted = subst (λ (o : Option StoredCase). IsCounted o u) vacant counted

-- one user more
pub counted_taken : (g : Grounds) (asn : ℕ) (path : Path) (old new : Slots) (n : ℕ) (users : ℕ → ℕ) → Takes g asn path old new n → ((j : ℕ) → IsCounted (at old j) (users j))
    → (j : ℕ) → IsCounted (at new j) (users j + one j n)
counted_taken g asn path old new n users takes counted = taken_each g asn path old new n (λ j c. IsCounted c (users j + one j n)) takes
    (λ stored. raised_counted (at old n) asn path (users n) (users n + one n n) stored (counted n) (ap (λ (k : ℕ). users n + k) (one-same n)))
    (λ judgement vacant right. let e = none_counted (at old n) (users n) vacant (counted n) in let f = one-same n in (omega (arith, e, f), omega (arith, f)))
    (λ j other. let e : users j + one j n ≡ users j = omega (arith, one-other j n (λ same. other (sym same))) in subst (λ (u : ℕ). IsCounted (at old j) u) (sym e) (counted j))

-- ---- a case is left

-- what holds of the case that is left, and of the others
pub left_each : (old new : Slots) (o : Option ℕ) (P : ℕ → Option StoredCase → Type 0) → Leaves old o new → ((n : ℕ) → o ≡ Some n → P n (left (at old n)))
    → ((j : ℕ) → o ≢ Some j → P j (at old j)) → (j : ℕ) → P j (at new j)
left_each old new None P leaves here others j = subst (λ (cases : Slots). P j (at cases j)) (sym leaves) (others j (λ e. cc))
left_each old new (Some n) P leaves here others j = by (decide_eq j n) where
  some_is : (a b : ℕ) → Some a ≡ Some b → a ≡ b
  some_is a b e = ap (λ (o : Option ℕ). unwrap_or o 0) e

  by : (j ≡ n) ⊎ (j ≢ n) → P j (at new j)
  by (inl e) = subst (λ (i : ℕ). P i (at new i)) (sym e) (subst (P n) (sym leaves.here) (here n refl))
  by (inr other) = subst (P j) (sym (leaves.others j other)) (others j (λ e. other (sym (some_is n j e))))

-- a case that still has users once it is left is only lowered
pub left_used : (c : Option StoredCase) (u : ℕ) → IsCounted c (u + 1) → 0 < u → left c ≡ lowered c
left_used None u counted used = absurd (omega (arith, counted))
left_used (Some c) u counted used = by (nat_lt 1 c.users) refl where
  by : (b : Bool) → nat_lt 1 c.users ≡ b → cond b (lowered (Some c)) None ≡ lowered (Some c)
  by true t = refl
  by false t = absurd (omega (arith, ltb-false 1 c.users t, counted.0, used))

pub left_counted : (c : Option StoredCase) (u : ℕ) → IsCounted c (u + 1) → IsCounted (left c) u
left_counted None u counted = absurd (omega (arith, counted))
left_counted (Some c) u counted = by (nat_lt 1 c.users) refl where
  by : (b : Bool) → nat_lt 1 c.users ≡ b → IsCounted (cond b (lowered (Some c)) None) u
  by true t = (omega (arith, counted.0), omega (arith, ltb-true 1 c.users t, counted.0))
  by false t = omega (arith, ltb-false 1 c.users t, counted.0)

-- one user less
pub counted_left : (old new : Slots) (o : Option ℕ) (users : ℕ → ℕ) → Leaves old o new → ((j : ℕ) → IsCounted (at old j) (users j + ones j o)) → (j : ℕ) → IsCounted (at new j) (users j)
counted_left old new o users leaves counted = left_each old new o (λ j c. IsCounted c (users j)) leaves
    (λ n is. left_counted (at old n) (users n) (subst (λ (k : ℕ). IsCounted (at old n) (users n + k)) (ap (ones n) is ∙ one-same n) (counted n)))
    (λ j other. subst (λ (k : ℕ). IsCounted (at old j) k) (omega (arith, none_of o j other)) (counted j)) where
      none_of : (o : Option ℕ) (j : ℕ) → o ≢ Some j → ones j o ≡ 0
      none_of None j other = refl
      none_of (Some n) j other = one-other j n (λ e. other (ap Some e))
