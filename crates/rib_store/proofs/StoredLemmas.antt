-- The cases stay those of the routes through each change.
use Rattle.std.proofs.Common.{◌≡◌, ℕ, ◌+◌, ◌<◌, Bool, true, false, cond, None, Some, refl, ap, sym, subst, ◌∙◌, arith}
use Rattle.std.specs.declared.option.Option.{Option}
use Rattle.std.specs.BTreeMap.{is_at, insert_entry}
use Rattle.std.specs.List.Sorted.{IsStrictlySortedBy}
use Rattle.std.specs.Map.{lookup, keys_of, remove_entry}
use Rattle.std.specs.Option.{unwrap_or}
use Rattle.path_model.specs.declared.key.Key.{Key}
use Rattle.path_model.specs.Key.{key_cmp}
use Rattle.path_model.specs.Trail.{Path}
use Rattle.shared_cases.specs.declared.case.StoredCase.{StoredCase}
use Rattle.shared_cases.specs.Cases.{Slots, at, IsStoredAs, IsSameCase, AreSameCases, marked_now}
use Rattle.shared_cases.specs.Grounds.{Grounds, IsJudged}
use Rattle.shared_cases.specs.Taking.{raised, lowered, left, is_shared, Takes}
use Rattle.rib_store.specs.Cased.{Numbered, path_or, users_of, IsCounted, IsOfAs, AreStored}
use Rattle.rib_store.specs.Steps.{Leaves}
use Rattle.rib_store.proofs.CountedLemmas.{one-same, ones, users_inserted, users_removed, users_positive, taken_each, counted_taken, left_each, left_used, counted_left}
use Rattle.rib_store.proofs.KeyLemmas.{same_key}

-- ---- half-way: the cases count a user more, of what a key was

pub record ArePending (g : Grounds) (routes : Numbered) (cases : Slots) (before : Option ℕ) : Type 0 where
  pub counted : (n : ℕ) → IsCounted (at cases n) (users_of routes n + ones n before)
  pub of_peers : (key : Key) (n : ℕ) → lookup (is_at (key_cmp key)) routes ≡ Some n → IsOfAs (at cases n) key.peer.asn
  pub judged : (n : ℕ) → IsJudged g (at cases n)

lowered_as : (c : Option StoredCase) (asn : ℕ) → IsOfAs c asn → IsOfAs (lowered c) asn
lowered_as None asn is = tt
lowered_as (Some c) asn is = is

pub left_as : (c : Option StoredCase) (asn : ℕ) → IsOfAs c asn → IsOfAs (left c) asn
left_as c asn is = by (is_shared c) where
  by : (b : Bool) → IsOfAs (cond b (lowered c) None) asn
  by true = lowered_as c asn is
  by false = tt

lowered_judged : (g : Grounds) (c : Option StoredCase) → IsJudged g c → IsJudged g (lowered c)
lowered_judged g None right = (tt, tt)
lowered_judged g (Some c) right = right

pub left_judged : (g : Grounds) (c : Option StoredCase) → IsJudged g c → IsJudged g (left c)
left_judged g c right = by (is_shared c) where
  by : (b : Bool) → IsJudged g (cond b (lowered c) None)
  by true = lowered_judged g c right
  by false = (tt, tt)

-- what a key was is left
pub settled : (g : Grounds) (routes : Numbered) (old new : Slots) (before : Option ℕ) → ArePending g routes old before → Leaves old before new → AreStored g routes new
settled g routes old new before pending leaves = record {
  counted = counted_left old new before (users_of routes) leaves pending.counted;
  of_peers = λ key n here. left_each old new before (λ j c. lookup (is_at (key_cmp key)) routes ≡ Some j → IsOfAs c key.peer.asn) leaves
      (λ j is was. left_as (at old j) key.peer.asn (pending.of_peers key j was)) (λ j other was. pending.of_peers key j was) n here;
  judged = left_each old new before (λ j c. IsJudged g c) leaves (λ j is. left_judged g (at old j) (pending.judged j)) (λ j other. pending.judged j);
}

-- a part of a case that doesn't tell its users stays, where it is still used
pub settled_part : {A : Type 0} (part : Option StoredCase → A) → ((c : Option StoredCase) → part (lowered c) ≡ part c) → (g : Grounds) (routes : Numbered) (old new : Slots) (before : Option ℕ)
    → ArePending g routes old before → Leaves old before new → (j : ℕ) → 0 < users_of routes j → part (at new j) ≡ part (at old j)
settled_part part same g routes old new before pending leaves j used = left_each old new before (λ i c. 0 < users_of routes i → part c ≡ part (at old i)) leaves
    (λ n is more. ap part (left_used (at old n) (users_of routes n) (subst (λ (k : ℕ). IsCounted (at old n) (users_of routes n + k)) (one_of n is) (pending.counted n)) more) ∙ same (at old n))
    (λ i other more. refl) j used where
      one_of : (n : ℕ) → before ≡ Some n → ones n before ≡ 1
      one_of n is = ap (ones n) is ∙ one-same n

-- ---- a route goes

cond_some : (b : Bool) (o : Option ℕ) (n : ℕ) → cond b None o ≡ Some n → o ≡ Some n
cond_some true o n e = absurd (cc)
cond_some false o n e = e

pub removed : (g : Grounds) (before after : Numbered) (cases : Slots) (k : Key) → AreStored g before cases → after ≡ remove_entry (is_at (key_cmp k)) before
    → ((q : Key) → lookup (is_at (key_cmp q)) after ≡ cond (is_at (key_cmp k) q) None (lookup (is_at (key_cmp q)) before)) → ArePending g after cases (lookup (is_at (key_cmp k)) before)
removed g before after cases k stored is updates = record {
  counted = λ n. subst (λ (u : ℕ). IsCounted (at cases n) u) (sym (ap (λ (es : Numbered). users_of es n + ones n (lookup (is_at (key_cmp k)) before)) is ∙ users_removed before k n)) (stored.counted n);
  of_peers = λ q n here. stored.of_peers q n (cond_some (is_at (key_cmp k) q) (lookup (is_at (key_cmp q)) before) n (sym (updates q) ∙ here));
  judged = stored.judged;
}

-- ---- a route comes

raised_as : (c : Option StoredCase) (asn : ℕ) → IsOfAs c asn → IsOfAs (raised c) asn
raised_as None asn is = tt
raised_as (Some c) asn is = is

raised_judged : (g : Grounds) (c : Option StoredCase) → IsJudged g c → IsJudged g (raised c)
raised_judged g None right = (tt, tt)
raised_judged g (Some c) right = right

stored_as : (c : Option StoredCase) (asn : ℕ) (path : Path) → IsStoredAs c asn path → IsOfAs (raised c) asn
stored_as None asn path stored = tt
stored_as (Some c) asn path stored = stored.0

not_used : (c : Option StoredCase) (u : ℕ) → c ≡ None → IsCounted c u → 0 < u → ⊥
not_used c u vacant counted used = let e : u ≡ 0 = subst (λ (o : Option StoredCase). IsCounted o u) vacant counted in absurd (omega (arith, e, used))

module _ (g : Grounds) (before after : Numbered) (old new : Slots) (k : Key) (n : ℕ) (path : Path) (stored : AreStored g before old) (takes : Takes g k.peer.asn path old new n) where
  -- a case that was used is the same but for its users
  used_as : (asn j : ℕ) → 0 < users_of before j → IsOfAs (at old j) asn → IsOfAs (at new j) asn
  used_as asn j used is = taken_each g k.peer.asn path old new n (λ i c. 0 < users_of before i → IsOfAs (at old i) asn → IsOfAs c asn) takes
      (λ here more was. raised_as (at old n) asn was)
      (λ judgement vacant right more was. absurd (not_used (at old n) (users_of before n) vacant (stored.counted n) more))
      (λ i other more was. was) j used is

  pub taken_part : {A : Type 0} (part : Option StoredCase → A) → ((c : Option StoredCase) → part (raised c) ≡ part c) → (j : ℕ) → 0 < users_of before j → part (at new j) ≡ part (at old j)
  taken_part part same j used = taken_each g k.peer.asn path old new n (λ i c. 0 < users_of before i → part c ≡ part (at old i)) takes
      (λ here more. same (at old n))
      (λ judgement vacant right more. absurd (not_used (at old n) (users_of before n) vacant (stored.counted n) more))
      (λ i other more. refl) j used

  taken_as : IsOfAs (at new n) k.peer.asn
  taken_as = taken_each g k.peer.asn path old new n (λ i c. i ≡ n → IsOfAs c k.peer.asn) takes
      (λ here e. stored_as (at old n) k.peer.asn path here) (λ judgement vacant right e. refl) (λ i other e. absurd (other e)) n refl

  as_after : (q : Key) (j : ℕ) (b : Bool) → is_at (key_cmp k) q ≡ b → cond b (Some n) (lookup (is_at (key_cmp q)) before) ≡ Some j → IsOfAs (at new j) q.peer.asn
  as_after q j true t here =
      let e : n ≡ j = ap (λ (o : Option ℕ). unwrap_or o 0) here in
      subst (λ (i : ℕ). IsOfAs (at new i) q.peer.asn) e (subst (λ (a : ℕ). IsOfAs (at new n) a) (ap (λ (key : Key). key.peer.asn) (same_key k q t)) taken_as)
  as_after q j false t here = used_as q.peer.asn j (users_positive before q j here) (stored.of_peers q j here)

  pub inserted : IsStrictlySortedBy key_cmp (keys_of before) → after ≡ insert_entry key_cmp before k n
      → ((q : Key) → lookup (is_at (key_cmp q)) after ≡ cond (is_at (key_cmp k) q) (Some n) (lookup (is_at (key_cmp q)) before)) → ArePending g after new (lookup (is_at (key_cmp k)) before)
  inserted sorted is updates = record {
    counted = λ j. subst (λ (u : ℕ). IsCounted (at new j) u)
        (sym (ap (λ (es : Numbered). users_of es j + ones j (lookup (is_at (key_cmp k)) before)) is ∙ users_inserted before k n j sorted))
        (counted_taken g k.peer.asn path old new n (users_of before) takes stored.counted j);
    of_peers = λ q j here. as_after q j (is_at (key_cmp k) q) refl (sym (updates q) ∙ here);
    judged = taken_each g k.peer.asn path old new n (λ j c. IsJudged g c) takes (λ here. raised_judged g (at old n) (stored.judged n)) (λ judgement vacant right. (right, λ own. own)) (λ j other. stored.judged j);
  }

  pub taken_path : path_or (at new n) ≡ path
  taken_path = taken_each g k.peer.asn path old new n (λ i c. i ≡ n → path_or c ≡ path) takes
      (λ here e. raised_path (at old n) here) (λ judgement vacant right e. refl) (λ i other e. absurd (other e)) n refl where
        raised_path : (c : Option StoredCase) → IsStoredAs c k.peer.asn path → path_or (raised c) ≡ path
        raised_path None here = absurd here
        raised_path (Some c) here = here.1

-- ---- other judgements, and marks

same_counted : (c d : Option StoredCase) (u : ℕ) → IsSameCase c d → IsCounted c u → IsCounted d u
same_counted None None u same counted = counted
same_counted None (Some d) u same counted = absurd same
same_counted (Some c) None u same counted = absurd same
same_counted (Some c) (Some d) u same counted = (sym same.2 ∙ counted.0, counted.1)

same_as : (c d : Option StoredCase) (asn : ℕ) → IsSameCase c d → IsOfAs c asn → IsOfAs d asn
same_as None None asn same is = tt
same_as None (Some d) asn same is = absurd same
same_as (Some c) None asn same is = absurd same
same_as (Some c) (Some d) asn same is = sym same.0 ∙ is

pub rejudged : (old_g new_g : Grounds) (routes : Numbered) (old new : Slots) → AreStored old_g routes old → AreSameCases old new → ((n : ℕ) → IsJudged old_g (at old n) → IsJudged new_g (at new n))
    → AreStored new_g routes new
rejudged old_g new_g routes old new stored same judged = record {
  counted = λ n. same_counted (at old n) (at new n) (users_of routes n) (same n) (stored.counted n);
  of_peers = λ key n here. same_as (at old n) (at new n) key.peer.asn (same n) (stored.of_peers key n here);
  judged = λ n. judged n (stored.judged n);
}

counted_marked : (c : Option StoredCase) (u : ℕ) → IsCounted c u → IsCounted (marked_now c) u
counted_marked None u e = e
counted_marked (Some c) u e = e

as_marked : (c : Option StoredCase) (asn : ℕ) → IsOfAs c asn → IsOfAs (marked_now c) asn
as_marked None asn e = e
as_marked (Some c) asn e = e

judged_marked : (g : Grounds) (c : Option StoredCase) → IsJudged g c → IsJudged g (marked_now c)
judged_marked g None e = e
judged_marked g (Some c) e = e

pub marked_stored : (g : Grounds) (routes : Numbered) (old new : Slots) → AreStored g routes old → ((n : ℕ) → at new n ≡ marked_now (at old n)) → AreStored g routes new
marked_stored g routes old new stored marked = record {
  counted = λ n. subst (λ (c : Option StoredCase). IsCounted c (users_of routes n)) (sym (marked n)) (counted_marked (at old n) (users_of routes n) (stored.counted n));
  of_peers = λ key n here. subst (λ (c : Option StoredCase). IsOfAs c key.peer.asn) (sym (marked n)) (as_marked (at old n) key.peer.asn (stored.of_peers key n here));
  judged = λ n. subst (IsJudged g) (sym (marked n)) (judged_marked g (at old n) (stored.judged n));
}
