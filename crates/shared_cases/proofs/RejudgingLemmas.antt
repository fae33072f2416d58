-- Cases that are judged anew, number by number.
use Rattle.std.proofs.Common.{◌≡◌, ◌≢◌, ℕ, nat_eq, Bool, true, false, not, ◌||◌, ◌&&◌, slice_set, List, [], ◌∷◌, None, Some, Less, refl, ap, sym, subst, ◌∙◌, ◌⊎◌, inl, inr, true≢false}
use Rattle.std.specs.declared.option.Option.{Option}
use Rattle.std.specs.Cmp.{nat_eq_equiv}
use Rattle.std.specs.List.{AllByRecursion}
use Rattle.std.specs.List.Sorted.{IsStrictlySortedBy}
use Rattle.std.specs.Ordering.{nat_cmp}
use Rattle.std.proofs.Math.Bool.{and-true, or-false}
use Rattle.std.proofs.lemmas.Map.Keys.{sorted_head, sorted_tail}
use Rattle.shared_cases.specs.declared.case.StoredCase.{StoredCase}
use Rattle.shared_cases.specs.Cases.{Slots, at, differs, has_differed, IsSameCase}
use Rattle.shared_cases.specs.Differed.{AreNewlyDiffering, HasDiffered}
use Rattle.shared_cases.specs.Grounds.{Grounds, IsRightCase}
use Rattle.shared_cases.specs.Numbers.{has}
use Rattle.shared_cases.specs.Owning.{says_own, SayTheSame}
use Rattle.shared_cases.proofs.CaseLemmas.{written_here}
use Rattle.shared_cases.proofs.NumberLemmas.{decide_eq, has_cases, has_first, has_later, nat_eq-other}
use Rattle.shared_cases.proofs.TouchLemmas.{not_below}

same_case-trans : (b c d : Option StoredCase) → IsSameCase b c → IsSameCase c d → IsSameCase b d
same_case-trans None None None s t = tt
same_case-trans None None (Some d) s t = absurd t
same_case-trans None (Some c) d s t = absurd s
same_case-trans (Some b) None d s t = absurd s
same_case-trans (Some b) (Some c) None s t = absurd t
same_case-trans (Some b) (Some c) (Some d) s t = (s.0 ∙ t.0, s.1 ∙ t.1, s.2 ∙ t.2, s.3 ∙ t.3)

pub same_case-refl : (c : Option StoredCase) → IsSameCase c c
same_case-refl None = tt
same_case-refl (Some c) = (refl, refl, refl, refl)

-- what is written over a case has differed where it had, or differs
pub differed_written : (cases : Slots) (n : ℕ) (c d : StoredCase) → at cases n ≡ Some c → d.differed ≡ (c.differed || differs (Some d)) → HasDiffered (at cases n) (at (slice_set cases n (Some d)) n)
differed_written cases n c d here told =
    subst (λ (o : Option StoredCase). HasDiffered (at cases n) o) (sym (written_here cases n c (Some d) here)) (subst (λ (o : Option StoredCase). HasDiffered o (Some d)) (sym here) told)

-- whether a case has differed and hadn't before
abbrev pub newly_differs : Option StoredCase → Option StoredCase → Bool
newly_differs before now = has_differed now && not (has_differed before)

-- so far as the numbers that are left: those cases are as they were
pub record IsRejudging (g : Grounds) (touched : ℕ → Bool) (first now : Slots) (rest newly : List ℕ) : Type 0 where
  pub rising : IsStrictlySortedBy nat_cmp rest
  pub judged : (n : ℕ) → touched n ≡ true → (has rest n ≡ true) ⊎ (IsRightCase g (at now n) × HasDiffered (at first n) (at now n))
  pub within : (n : ℕ) → has rest n ≡ true → touched n ≡ true
  pub others : (n : ℕ) → touched n ≡ false → at now n ≡ at first n
  pub left : (n : ℕ) → has rest n ≡ true → at now n ≡ at first n
  pub same : (n : ℕ) → IsSameCase (at first n) (at now n)
  pub own : SayTheSame first now
  pub told : AreNewlyDiffering first now newly

none_new : (b : Bool) → false ≡ (b && not b)
none_new true = refl
none_new false = refl

pub rejudging_first : (g : Grounds) (first : Slots) (rest newly : List ℕ) → IsStrictlySortedBy nat_cmp rest → newly ≡ [] → IsRejudging g (has rest) first first rest newly
rejudging_first g first rest newly rising none = record {
  rising = rising;
  judged = λ n is. inl is;
  within = λ n is. is;
  others = λ n isnt. refl;
  left = λ n is. refl;
  same = λ n. same_case-refl (at first n);
  own = λ n. refl;
  told = λ n. ap (λ (numbers : List ℕ). has numbers n) none ∙ none_new (has_differed (at first n));
}

-- a rising list has no number twice
not_again : (x n : ℕ) (rest : List ℕ) → AllByRecursion (λ y. nat_cmp x y ≡ Less) rest → has rest n ≡ true → n ≢ x
not_again x n [] below there = absurd (true≢false (sym there))
not_again x n (y ∷ ys) below there = elim (has_cases n y ys there) [
  | inl e ↦ λ same. not_below x y (sym same ∙ e) below.0
  | inr later ↦ not_again x n ys below.1 later
]

module _ (g : Grounds) (touched : ℕ → Bool) (first now next : Slots) (x : ℕ) (rest newly newly' : List ℕ) (so_far : IsRejudging g touched first now (x ∷ rest) newly)
    (judged : IsRightCase g (at next x)) (same : IsSameCase (at now x) (at next x)) (own : says_own (at next x) ≡ says_own (at now x)) (differed : HasDiffered (at now x) (at next x)) (others : (n : ℕ) → n ≢ x → at next n ≡ at now n)
    (answer : Bool) (answered : answer ≡ newly_differs (at now x) (at next x)) (told : (n : ℕ) → has newly' n ≡ (has newly n || (nat_eq n x && answer))) where
  as_first : at now x ≡ at first x
  as_first = so_far.left x (has_first x x rest refl)

  judged_here : (n : ℕ) → n ≡ x → IsRightCase g (at next n) × HasDiffered (at first n) (at next n)
  judged_here n e = subst (λ (k : ℕ). IsRightCase g (at next k) × HasDiffered (at first k) (at next k)) (sym e)
      (judged, subst (λ (o : Option StoredCase). HasDiffered o (at next x)) as_first differed)

  judged_kept : (n : ℕ) → IsRightCase g (at now n) × HasDiffered (at first n) (at now n) → (n ≡ x) ⊎ (n ≢ x) → IsRightCase g (at next n) × HasDiffered (at first n) (at next n)
  judged_kept n was (inl e) = judged_here n e
  judged_kept n was (inr other) = subst (λ (o : Option StoredCase). IsRightCase g o × HasDiffered (at first n) o) (sym (others n other)) was

  judged_next : (n : ℕ) → (has (x ∷ rest) n ≡ true) ⊎ (IsRightCase g (at now n) × HasDiffered (at first n) (at now n))
      → (has rest n ≡ true) ⊎ (IsRightCase g (at next n) × HasDiffered (at first n) (at next n))
  judged_next n (inl there) = elim (has_cases n x rest there) [ inl e ↦ inr (judged_here n e) | inr later ↦ inl later ]
  judged_next n (inr was) = inr (judged_kept n was (decide_eq n x))

  same_next : (n : ℕ) → (n ≡ x) ⊎ (n ≢ x) → IsSameCase (at now n) (at next n)
  same_next n (inl e) = subst (λ (k : ℕ). IsSameCase (at now k) (at next k)) (sym e) same
  same_next n (inr other) = subst (λ (o : Option StoredCase). IsSameCase (at now n) o) (sym (others n other)) (same_case-refl (at now n))

  own_next : (n : ℕ) → (n ≡ x) ⊎ (n ≢ x) → says_own (at next n) ≡ says_own (at now n)
  own_next n (inl e) = subst (λ (k : ℕ). says_own (at next k) ≡ says_own (at now k)) (sym e) own
  own_next n (inr other) = ap says_own (others n other)

  newly_here : has newly' x ≡ newly_differs (at first x) (at next x)
  newly_here =
      told x ∙ ap (λ (b : Bool). has newly x || (b && answer)) (nat_eq_equiv.refl x) ∙ ap (λ (b : Bool). b || answer) hadnt ∙ answered
      ∙ ap (λ (o : Option StoredCase). newly_differs o (at next x)) as_first where
        hadnt : has newly x ≡ false
        hadnt = so_far.told x ∙ ap (λ (o : Option StoredCase). newly_differs o (at now x)) (sym as_first) ∙ sym (none_new (has_differed (at now x)))

  newly_next : (n : ℕ) → (n ≡ x) ⊎ (n ≢ x) → has newly' n ≡ newly_differs (at first n) (at next n)
  newly_next n (inl e) = subst (λ (k : ℕ). has newly' k ≡ newly_differs (at first k) (at next k)) (sym e) newly_here
  newly_next n (inr other) =
      told n ∙ ap (λ (b : Bool). has newly n || (b && answer)) (nat_eq-other n x other) ∙ or-false (has newly n)
      ∙ so_far.told n ∙ ap (λ (o : Option StoredCase). newly_differs (at first n) o) (sym (others n other))

  pub rejudging_next : IsRejudging g touched first next rest newly'
  rejudging_next = record {
    rising = sorted_tail nat_cmp x rest so_far.rising;
    judged = λ n is. judged_next n (so_far.judged n is);
    within = λ n later. so_far.within n (has_later n x rest later);
    others = λ n isnt. others n (λ e. true≢false (sym (so_far.within n (has_first n x rest e)) ∙ isnt)) ∙ so_far.others n isnt;
    left = λ n later. others n (not_again x n rest (sorted_head nat_cmp x rest so_far.rising) later) ∙ so_far.left n (has_later n x rest later);
    same = λ n. same_case-trans (at first n) (at now n) (at next n) (so_far.same n) (same_next n (decide_eq n x));
    own = λ n. own_next n (decide_eq n x) ∙ so_far.own n;
    told = λ n. newly_next n (decide_eq n x);
  }

-- the number comes to the others where this is so
pub told_more : (before after : List ℕ) (x : ℕ) (b : Bool) → b ≡ true → ((n : ℕ) → has after n ≡ (has before n || nat_eq n x)) → (n : ℕ) → has after n ≡ (has before n || (nat_eq n x && b))
told_more before after x b is more n = more n ∙ ap (λ (c : Bool). has before n || c) (sym (ap (λ (d : Bool). nat_eq n x && d) is ∙ and-true (nat_eq n x)))

-- where none are left, all are judged
judged_of : (g : Grounds) (first now : Slots) (n : ℕ) → (has [] n ≡ true) ⊎ (IsRightCase g (at now n) × HasDiffered (at first n) (at now n)) → IsRightCase g (at now n) × HasDiffered (at first n) (at now n)
judged_of g first now n (inl there) = absurd (true≢false (sym there))
judged_of g first now n (inr was) = was

pub all_rejudged : (g : Grounds) (touched : ℕ → Bool) (first now : Slots) (rest newly : List ℕ) → IsRejudging g touched first now rest newly → rest ≡ []
    → (n : ℕ) → touched n ≡ true → IsRightCase g (at now n) × HasDiffered (at first n) (at now n)
all_rejudged g touched first now rest newly so_far e n is =
    judged_of g first now n (subst (λ (left : List ℕ). (has left n ≡ true) ⊎ (IsRightCase g (at now n) × HasDiffered (at first n) (at now n))) e (so_far.judged n is))
