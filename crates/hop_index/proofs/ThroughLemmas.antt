-- What is given of one AS: what it has, in rising order.
use Rattle.std.proofs.Common.{◌≡◌, ◌≢◌, ℕ, nat_eq, Bool, true, false, ◌||◌, ◌&&◌, List, [], ◌∷◌, ◌++◌, None, Some, refl, ap, sym, ◌∙◌, true≢false, inl, inr}
use Rattle.std.specs.declared.cmp.Ordering.{Ordering}
use Rattle.std.specs.declared.cmp.Ordering.TheVariants.{Less, Equal}
use Rattle.std.specs.declared.option.Option.{Option}
use Rattle.std.specs.Cmp.{nat_eq_equiv, nat_cmp_is}
use Rattle.std.specs.List.{list_any, AllByRecursion}
use Rattle.std.specs.List.Sorted.{IsStrictlySortedBy}
use Rattle.std.specs.Ordering.{nat_cmp, ordering_then}
use Rattle.std.proofs.lemmas.Bool.{and_parts, and_from, or_cases, or_left, or_right}
use Rattle.std.proofs.lemmas.List.Folds.{list_any-append}
use Rattle.std.proofs.lemmas.Map.Views.{exact_unsigned_eq}
use Rattle.hop_index.specs.Lists.{Lists, at, SomeCaseHas}
use Rattle.hop_index.specs.Kept.{Ends, are_beside, is_there, AreJoined, HaveCases}
use Rattle.hop_index.specs.Numbers.{has_number, found_has}
use Rattle.hop_index.specs.Pairs.{pair_of}
use Rattle.hop_index.specs.Ends.{end_cmp, has_end, ends_at, ends_of, listed_at}

-- ---- what is given is what is there
either : (a b c : Bool) → ((a && b) || (a && c)) ≡ (a && (b || c))
either true b c = refl
either false b c = refl

and_none : (b : Bool) → false ≡ (b && false)
and_none true = refl
and_none false = refl

only_there : (a b : Bool) → (a ≡ true → b ≡ true) → (b && a) ≡ a
only_there true b there = and_from b true (there refl) refl
only_there false b there = sym (and_none b)

absorbed : (a b : Bool) → (b || (a && b)) ≡ b
absorbed a true = refl
absorbed true false = refl
absorbed false false = refl

end_at : (y n z : ℕ) (cases : List ℕ) → has_end (ends_at z cases) y n ≡ (nat_eq y z && has_number cases n)
end_at y n z [] = and_none (nat_eq y z)
end_at y n z (m ∷ ms) = ap (λ (b : Bool). (nat_eq y z && nat_eq n m) || b) (end_at y n z ms) ∙ either (nat_eq y z) (nat_eq n m) (has_number ms n)

end_among : (y n : ℕ) (es fs : List (ℕ × ℕ)) → has_end (es ++ fs) y n ≡ (has_end es y n || has_end fs y n)
end_among y n es fs = list_any-append (λ end. nat_eq y end.0 && nat_eq n end.1) es fs

module _ (cases : ℕ → List ℕ) where
  here_or_later : (y n z : ℕ) (later b : Bool) → nat_eq y z ≡ b → ((b && has_number (cases z) n) || (later && has_number (cases y) n)) ≡ ((b || later) && has_number (cases y) n)
  here_or_later y n z later true is =
      let same : has_number (cases z) n ≡ has_number (cases y) n = ap (λ (a : ℕ). has_number (cases a) n) (sym (exact_unsigned_eq y z is)) in
      ap (λ (b : Bool). b || (later && has_number (cases y) n)) same ∙ absorbed later (has_number (cases y) n)
  here_or_later y n z later false is = refl

  ends_have : (y n : ℕ) (ys : List ℕ) → has_end (ends_of cases ys) y n ≡ (has_number ys y && has_number (cases y) n)
  ends_have y n [] = refl
  ends_have y n (z ∷ zs) =
      end_among y n (ends_at z (cases z)) (ends_of cases zs)
      ∙ ap (λ (b : Bool). b || has_end (ends_of cases zs) y n) (end_at y n z (cases z))
      ∙ ap (λ (b : Bool). (nat_eq y z && has_number (cases z) n) || b) (ends_have y n zs)
      ∙ here_or_later y n z (has_number zs y) (nat_eq y z) refl

  pub ends_exact : (ys : List ℕ) → ((y n : ℕ) → has_number (cases y) n ≡ true → has_number ys y ≡ true)
      → (y n : ℕ) → has_end (ends_of cases ys) y n ≡ has_number (cases y) n
  ends_exact ys whole y n = ends_have y n ys ∙ only_there (has_number (cases y) n) (has_number ys y) (whole y n)

-- ---- and it rises
abbrev IsBelow : ℕ × ℕ → List (ℕ × ℕ) → Type 0
IsBelow end ends = AllByRecursion (λ other. end_cmp end other ≡ Less) ends

below_both : (end : ℕ × ℕ) (es fs : List (ℕ × ℕ)) → IsBelow end es → IsBelow end fs → IsBelow end (es ++ fs)
below_both end [] fs below rest = rest
below_both end (e ∷ es) fs below rest = (below.0, below_both end es fs below.1 rest)

below_other : (y n z : ℕ) (cases : List ℕ) → nat_cmp y z ≡ Less → IsBelow (y, n) (ends_at z cases)
below_other y n z [] less = tt
below_other y n z (m ∷ ms) less = (ap (λ (o : Ordering). ordering_then o (nat_cmp n m)) less, below_other y n z ms less)

below_same : (y n : ℕ) (cases : List ℕ) → AllByRecursion (λ m. nat_cmp n m ≡ Less) cases → IsBelow (y, n) (ends_at y cases)
below_same y n [] below = tt
below_same y n (m ∷ ms) below = (ap (λ (o : Ordering). ordering_then o (nat_cmp n m)) (sym (nat_cmp_is y y Equal refl)) ∙ below.0, below_same y n ms below.1)

one_rises : (y : ℕ) (cases : List ℕ) (rest : List (ℕ × ℕ)) → IsStrictlySortedBy nat_cmp cases → ((n : ℕ) → IsBelow (y, n) rest) → IsStrictlySortedBy end_cmp rest
    → IsStrictlySortedBy end_cmp (ends_at y cases ++ rest)
unfolding IsStrictlySortedBy
one_rises y [] rest sorted below rises = rises
one_rises y (n ∷ ns) rest sorted below rises = (below_both (y, n) (ends_at y ns) rest (below_same y n ns sorted.0) (below n), one_rises y ns rest sorted.1 below rises)

module _ (cases : ℕ → List ℕ) where
  below_others : (y n : ℕ) (zs : List ℕ) → AllByRecursion (λ z. nat_cmp y z ≡ Less) zs → IsBelow (y, n) (ends_of cases zs)
  below_others y n [] below = tt
  below_others y n (z ∷ zs) below =
      below_both (y, n) (ends_at z (cases z)) (ends_of cases zs) (below_other y n z (cases z) below.0) (below_others y n zs below.1)

  pub ends_rise : (ys : List ℕ) → ((y : ℕ) → IsStrictlySortedBy nat_cmp (cases y)) → IsStrictlySortedBy nat_cmp ys → IsStrictlySortedBy end_cmp (ends_of cases ys)
  unfolding IsStrictlySortedBy
  ends_rise [] rising sorted = tt
  ends_rise (y ∷ ys) rising sorted =
      one_rises y (cases y) (ends_of cases ys) (rising y) (λ n. below_others y n ys sorted.0) (ends_rise ys rising sorted.1)

-- ---- of lists
found_there : (o : Option (List ℕ)) (n : ℕ) → found_has o n ≡ true → is_there o ≡ true
found_there None n h = h
found_there (Some cases) n h = refl

pub neighbours_whole : (ends : Ends) (index : Lists) (x : ℕ) (ys : List ℕ) → AreJoined ends index → ((y : ℕ) → has_number ys y ≡ are_beside ends x y)
    → (y n : ℕ) → has_number (listed_at index x y) n ≡ true → has_number ys y ≡ true
neighbours_whole ends index x ys joined whole y n there = whole y ∙ joined x y ∙ found_there (at index (pair_of x y)) n there

some_there : (o : Option (List ℕ)) → is_there o ≡ true → o ≢ Some [] → (n : ℕ) × (found_has o n ≡ true)
some_there None there some = absurd (true≢false (sym there))
some_there (Some []) there some = absurd (some refl)
some_there (Some (n ∷ ns)) there some = (n, or_left (nat_eq n n) (has_number ns n) (nat_eq_equiv.refl n))

pub neighbours_only : (ends : Ends) (index : Lists) (x : ℕ) (ys : List ℕ) → AreJoined ends index → HaveCases index → ((y : ℕ) → has_number ys y ≡ are_beside ends x y)
    → (y : ℕ) → has_number ys y ≡ true → SomeCaseHas index x y
neighbours_only ends index x ys joined cases whole y there = some_there (at index (pair_of x y)) (sym (joined x y) ∙ sym (whole y) ∙ there) (cases (pair_of x y))

-- ---- with an AS of which p is so, as a test of what is given
module _ (p : ℕ → Bool) (n : ℕ) where
  abbrev reaches : List (ℕ × ℕ) → Bool
  reaches ends = list_any (λ end. p end.0 && nat_eq n end.1) ends

  pub reached : (ends : List (ℕ × ℕ)) → reaches ends ≡ true → (y : ℕ) × (has_end ends y n ≡ true) × (p y ≡ true)
  reached [] h = absurd (true≢false (sym h))
  reached (e ∷ es) h =
      elim (or_cases (p e.0 && nat_eq n e.1) (reaches es) h) [
        | inl here ↦
            let parts = and_parts (p e.0) (nat_eq n e.1) here in
            (e.0, or_left (nat_eq e.0 e.0 && nat_eq n e.1) (has_end es e.0 n) (and_from (nat_eq e.0 e.0) (nat_eq n e.1) (nat_eq_equiv.refl e.0) parts.1), parts.0)
        | inr later ↦ let r = reached es later in (r.0, or_right (nat_eq r.0 e.0 && nat_eq n e.1) (has_end es r.0 n) r.1, r.2)
      ]

  pub reaching : (y : ℕ) (ends : List (ℕ × ℕ)) → has_end ends y n ≡ true → p y ≡ true → reaches ends ≡ true
  reaching y [] h passes = absurd (true≢false (sym h))
  reaching y (e ∷ es) h passes =
      elim (or_cases (nat_eq y e.0 && nat_eq n e.1) (has_end es y n) h) [
        | inl here ↦
            let parts = and_parts (nat_eq y e.0) (nat_eq n e.1) here in
            or_left (p e.0 && nat_eq n e.1) (reaches es) (and_from (p e.0) (nat_eq n e.1) (ap p (sym (exact_unsigned_eq y e.0 parts.0)) ∙ passes) parts.1)
        | inr later ↦ or_right (p e.0 && nat_eq n e.1) (reaches es) (reaching y es later passes)
      ]

-- a case is reached exactly where it has such a hop
pub ends_reach : (index : ℕ → ℕ → ℕ → Bool) (x n : ℕ) (p : ℕ → Bool) (ends : List (ℕ × ℕ)) → ((y : ℕ) → has_end ends y n ≡ index x y n)
    → (list_any (λ end. p end.0 && nat_eq n end.1) ends ≡ true → (y : ℕ) × (index x y n ≡ true) × (p y ≡ true))
    × ((y : ℕ) × (index x y n ≡ true) × (p y ≡ true) → list_any (λ end. p end.0 && nat_eq n end.1) ends ≡ true)
ends_reach index x n p ends exact = (
  λ h. let r = reached p n ends h in (r.0, sym (exact r.0) ∙ r.1, r.2),
  λ h. reaching p n h.0 ends (exact h.0 ∙ h.1) h.2,
)
