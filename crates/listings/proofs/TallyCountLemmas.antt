-- Numbers of things with a property, counted by a test.
use Rattle.std.proofs.Common.{◌≡◌, ◌≢◌, ℕ, zero, suc, ◌+◌, ◌<◌, ◌≤◌, ◌⊎◌, inl, inr, Bool, true, false, cond, ◌||◌, ◌&&◌, List, [], ◌∷◌, length, slice_index_or, refl, sym, ap, ◌∙◌, subst, arith}
use Rattle.std.specs.Prelude.{map, Contains, ⊤}
use Rattle.std.specs.List.{All, AllByRecursion, count_by, sum_by, filter, list_any}
use Rattle.std.proofs.Math.Bool.{or-true}
use Rattle.std.proofs.lemmas.List.{length-map}
use Rattle.std.proofs.lemmas.List.Elements.{All-cons, All-head, All-nil, All-tail, Contains-append_right}
use Rattle.std.proofs.lemmas.List.Sums.{length-filter, sum_by-cons}
use Rattle.shared_cases.specs.Touched.{AreApart}
use Rattle.listings.specs.Tallies.{IsNumberOf}

-- ---- members

-- a list has its head
pub in_head : {A : Type 0} (x : A) (xs : List A) → Contains (x ∷ xs) x
in_head x xs = (0, omega arith, refl)

-- and what its tail has
pub in_tail : {A : Type 0} (x : A) (xs : List A) (y : A) → Contains xs y → Contains (x ∷ xs) y
in_tail x xs y h = Contains-append_right (x ∷ []) xs y h

-- an empty list has nothing
pub in_none : {A : Type 0} (y : A) → Contains {X = A} [] y → ⊥
in_none y h = absurd (omega (arith, h.1))

-- some member of a list passes a test and is shown as this
pub record HasShown {A B : Type 0} (f : A → B) (test : A → Bool) (xs : List A) (y : B) : Type 0 where
  pub member : A
  pub contained : Contains xs member
  pub passes : test member ≡ true
  pub shown : f member ≡ y

-- in a longer list too
shown_later : {A B : Type 0} (f : A → B) (test : A → Bool) (x : A) (xs : List A) (y : B) → HasShown f test xs y → HasShown f test (x ∷ xs) y
shown_later f test x xs y has = record { member = has.member; contained = in_tail x xs has.member has.contained; passes = has.passes; shown = has.shown }

-- what a list has is its head or is in its tail
pub in_cases : {A : Type 0} (x : A) (xs : List A) (y : A) → Contains (x ∷ xs) y → (x ≡ y) ⊎ Contains xs y
in_cases {A = A} x xs y h = at h.0 h.1 h.2 where
  at : (k : ℕ) → k < length (x ∷ xs) → slice_index_or (x ∷ xs) k y ≡ y → (x ≡ y) ⊎ Contains xs y
  at zero within is = inl is
  at (suc k) within is = inr (k, omega (arith, within), is)

module _ {A B : Type 0} (f : A → B) (test : A → Bool) where
  abbrev passed : List A → List B
  passed xs = map f (filter test xs)

  -- what is shown of the members that pass
  pub shown_of : (xs : List A) (y : B) → Contains (passed xs) y → HasShown f test xs y
  shown_of [] y h = absurd (in_none y h)
  shown_of (x ∷ xs) y h = by (shown_of xs y) (test x) refl h where
    by : (Contains (passed xs) y → HasShown f test xs y) → (b : Bool) → test x ≡ b
        → Contains (map f (cond b (x ∷ filter test xs) (filter test xs))) y → HasShown f test (x ∷ xs) y
    by more true passes h = elim (in_cases (f x) (passed xs) y h) [
      | inl is ↦ record { member = x; contained = in_head x xs; passes = passes; shown = is }
      | inr later ↦ shown_later f test x xs y (more later)
    ]
    by more false fails h = shown_later f test x xs y (more h)

  pub of_shown : (xs : List A) (y : B) → HasShown f test xs y → Contains (passed xs) y
  of_shown [] y has = absurd (in_none has.member has.contained)
  of_shown (x ∷ xs) y has = at (of_shown xs y) (in_cases x xs has.member has.contained) where
    later : (b : Bool) → Contains (passed xs) y → Contains (map f (cond b (x ∷ filter test xs) (filter test xs))) y
    later true h = in_tail (f x) (passed xs) y h
    later false h = h

    at : (HasShown f test xs y → Contains (passed xs) y) → (x ≡ has.member) ⊎ Contains xs has.member → Contains (passed (x ∷ xs)) y
    at more (inl same) =
        let passes : test x ≡ true = ap test same ∙ has.passes in
        let is : f x ≡ y = ap f same ∙ has.shown in
        subst (λ (b : Bool). Contains (map f (cond b (x ∷ filter test xs) (filter test xs))) y) (sym passes)
        (subst (λ (z : B). Contains (f x ∷ passed xs) z) is (in_head (f x) (passed xs)))
    at more (inr there) = later (test x) (more (record { member = has.member; contained = there; passes = has.passes; shown = has.shown }))

  -- what holds of all that is shown holds of what passes
  all_passed : (P : B → Type 0) (xs : List A) → All P (map f xs) → All P (passed xs)
  all_passed P [] all = All-nil P
  all_passed P (x ∷ xs) all = by (all_passed P xs (All-tail P (f x) (map f xs) all)) (test x) where
    by : All P (passed xs) → (b : Bool) → All P (map f (cond b (x ∷ filter test xs) (filter test xs)))
    by more true = All-cons P (f x) (passed xs) (All-head P (f x) (map f xs) all) more
    by more false = more

  apart_passed : (xs : List A) → AreApart (map f xs) → AreApart (passed xs)
  apart_passed [] apart = tt
  apart_passed (x ∷ xs) apart = by (apart_passed xs apart.1) (test x) where
    by : AreApart (passed xs) → (b : Bool) → AreApart (map f (cond b (x ∷ filter test xs) (filter test xs)))
    by more true = (all_passed (λ q. f x ≢ q) xs apart.0, more)
    by more false = more

  -- a test counts what has a property, where it tells what has it and no two are shown alike
  pub number_by : (P : B → Type 0) (xs : List A) (n : ℕ) → AreApart (map f xs) → ((y : B) → HasShown f test xs y → P y)
      → ((y : B) → P y → HasShown f test xs y) → n ≡ count_by test xs → IsNumberOf P n
  number_by P xs n apart sound whole counted = record {
    members = passed xs;
    apart = apart_passed xs apart;
    exact = λ y. ((λ h. sound y (shown_of xs y h)), λ has. of_shown xs y (whole y has));
    counted = counted ∙ sym (length-filter test xs) ∙ sym (length-map (filter test xs) f);
  }

-- a list of which a member passes has a positive count
pub some_counted : {A : Type 0} (test : A → Bool) (xs : List A) (x : A) → Contains xs x → test x ≡ true → 0 < count_by test xs
some_counted {A = A} test xs x there passes =
    let h : Contains (map (λ (y : A). y) (filter test xs)) x = of_shown (λ (y : A). y) test xs x (record { member = x; contained = there; passes = passes; shown = refl }) in
    omega (arith, h.1, length-map (filter test xs) (λ (y : A). y), length-filter test xs)

-- ---- members that pass

-- where some member passes, there is one,
pub any_member : {A : Type 0} (test : A → Bool) (xs : List A) → list_any test xs ≡ true → (x : A) × Contains xs x × (test x ≡ true)
any_member test [] e = absurd cc
any_member {A = A} test (x ∷ xs) e = by (any_member test xs) (test x) refl e where
  later : (y : A) × Contains xs y × (test y ≡ true) → (y : A) × Contains (x ∷ xs) y × (test y ≡ true)
  later found = (found.0, in_tail x xs found.0 found.1, found.2)

  by : (list_any test xs ≡ true → (y : A) × Contains xs y × (test y ≡ true)) → (b : Bool) → test x ≡ b → (b || list_any test xs) ≡ true
      → (y : A) × Contains (x ∷ xs) y × (test y ≡ true)
  by more true passes e = (x, in_head x xs, passes)
  by more false fails e = later (more e)

-- and where a member passes, some does
pub member_any : {A : Type 0} (test : A → Bool) (xs : List A) (x : A) → Contains xs x → test x ≡ true → list_any test xs ≡ true
member_any test [] x there passes = absurd (in_none x there)
member_any test (y ∷ ys) x there passes = elim (in_cases y ys x there) [
  | inl same ↦ ap (λ (b : Bool). b || list_any test ys) (ap test same ∙ passes)
  | inr later ↦ ap (λ (b : Bool). test y || b) (member_any test ys x later passes) ∙ or-true (test y)
]

-- and where the count is positive, there is one too
pub some_member : {A : Type 0} (test : A → Bool) (xs : List A) → 0 < count_by test xs → (x : A) × Contains xs x × (test x ≡ true)
some_member test [] some = absurd (omega (arith, some))
some_member {A = A} test (x ∷ xs) some = by (some_member test xs) (test x) refl (omega (arith, sum_by-cons (λ (y : A). cond (test y) 1 0) x xs, some)) where
  later : (y : A) × Contains xs y × (test y ≡ true) → (y : A) × Contains (x ∷ xs) y × (test y ≡ true)
  later found = (found.0, in_tail x xs found.0 found.1, found.2)

  by : (0 < count_by test xs → (y : A) × Contains xs y × (test y ≡ true)) → (b : Bool) → test x ≡ b → 0 < cond b 1 0 + count_by test xs
      → (y : A) × Contains (x ∷ xs) y × (test y ≡ true)
  by more true passes some = (x, in_head x xs, passes)
  by more false fails some = later (more (omega (arith, some)))

-- what a list shows is shown of a member
pub in_map : {A B : Type 0} (f : A → B) (xs : List A) (y : B) → Contains (map f xs) y → (x : A) × Contains xs x × (f x ≡ y)
in_map f [] y h = absurd (in_none y h)
in_map {A = A} {B = B} f (x ∷ xs) y h = by (in_map f xs y) (in_cases (f x) (map f xs) y h) where
  later : (z : A) × Contains xs z × (f z ≡ y) → (z : A) × Contains (x ∷ xs) z × (f z ≡ y)
  later found = (found.0, in_tail x xs found.0 found.1, found.2)

  by : (Contains (map f xs) y → (z : A) × Contains xs z × (f z ≡ y)) → (f x ≡ y) ⊎ Contains (map f xs) y → (z : A) × Contains (x ∷ xs) z × (f z ≡ y)
  by more (inl is) = (x, in_head x xs, is)
  by more (inr there) = later (more there)

-- ---- sums of counts

pub count_none : {A : Type 0} (xs : List A) → count_by (λ _. false) xs ≡ 0
count_none [] = refl
count_none {A = A} (x ∷ xs) = omega (arith, sum_by-cons (λ (y : A). cond false 1 0) x xs, count_none xs)

one_either : (a b : Bool) → (a ≡ true → b ≡ false) → cond (a || b) 1 0 ≡ cond a 1 0 + cond b 1 0
one_either true b apart = rw (apart refl) refl
one_either false b apart = omega arith

count_either : {A : Type 0} (f g : A → Bool) → ((x : A) → f x ≡ true → g x ≡ false) → (xs : List A)
    → count_by (λ x. f x || g x) xs ≡ count_by f xs + count_by g xs
count_either f g apart [] = refl
count_either {A = A} f g apart (x ∷ xs) = omega (
  arith,
  sum_by-cons (λ (y : A). cond (f y || g y) 1 0) x xs,
  sum_by-cons (λ (y : A). cond (f y) 1 0) x xs,
  sum_by-cons (λ (y : A). cond (g y) 1 0) x xs,
  one_either (f x) (g x) (apart x),
  count_either f g apart xs,
)

count_tested : {A : Type 0} (b : Bool) (h : A → Bool) (xs : List A) → count_by (λ x. b && h x) xs ≡ cond b (count_by h xs) 0
count_tested true h xs = refl
count_tested false h xs = count_none xs

second_of : (a b : Bool) → (a && b) ≡ true → b ≡ true
second_of true b e = e
second_of false b e = absurd cc

-- some of them that passes hits it
abbrev pub any_hit : {P R : Type 0} → (P → Bool) → (P → R → Bool) → List P → R → Bool
any_hit test hits ps r = list_any (λ p. test p && hits p r) ps

-- what one hits, none after it hits
abbrev pub AreExclusive : {P R : Type 0} → (P → R → Bool) → List P → Type 0
AreExclusive hits [] = ⊤
AreExclusive {R = R} hits (p ∷ ps) = ((r : R) → hits p r ≡ true → list_any (λ q. hits q r) ps ≡ false) × AreExclusive hits ps

module _ {P R : Type 0} (test : P → Bool) (hits : P → R → Bool) (weight : P → ℕ) where
  neither : (a b c : Bool) → (b || c) ≡ false → ((a && b) ≡ false) × (c ≡ false)
  neither a true c e = absurd cc
  neither true false c e = (refl, e)
  neither false false c e = (refl, e)

  none_hit : (ps : List P) (r : R) → list_any (λ q. hits q r) ps ≡ false → any_hit test hits ps r ≡ false
  none_hit [] r e = refl
  none_hit (p ∷ ps) r e =
      let both = neither (test p) (hits p r) (list_any (λ q. hits q r) ps) e in
      rw both.0 (none_hit ps r both.1)

  -- the weights of those that pass are together how many are hit by some that passes
  pub sum_hits : (es : List R) (ps : List P) → AreExclusive hits ps → AllByRecursion (λ p. weight p ≡ count_by (hits p) es) ps
      → sum_by (λ p. cond (test p) (weight p) 0) ps ≡ count_by (any_hit test hits ps) es
  sum_hits es [] exclusive weighed = sym (count_none es)
  sum_hits es (p ∷ ps) exclusive weighed = omega (
    arith,
    sum_by-cons (λ (q : P). cond (test q) (weight q) 0) p ps,
    count_either (λ r. test p && hits p r) (any_hit test hits ps) (λ r e. none_hit ps r (exclusive.0 r (second_of (test p) (hits p r) e))) es,
    count_tested (test p) (hits p) es ∙ ap (λ (n : ℕ). cond (test p) n 0) (sym weighed.0),
    sum_hits es ps exclusive.1 weighed.1,
  )

  one_within : (b : Bool) (w : ℕ) → 0 < w → cond b 1 0 ≤ cond b w 0
  one_within true w some = some
  one_within false w some = omega arith

  -- positive weights are together at least the number of those that pass
  pub count_within : (ps : List P) → AllByRecursion (λ p. 0 < weight p) ps → count_by test ps ≤ sum_by (λ p. cond (test p) (weight p) 0) ps
  count_within [] some = omega arith
  count_within (p ∷ ps) some = omega (
    arith,
    sum_by-cons (λ (q : P). cond (test q) (weight q) 0) p ps,
    sum_by-cons (λ (q : P). cond (test q) 1 0) p ps,
    one_within (test p) (weight p) some.0,
    count_within ps some.1,
  )

  none_passes : (b : Bool) (w : ℕ) → cond {A = ℕ} b 1 0 ≡ 0 → cond b w 0 ≡ 0
  none_passes true w e = absurd (omega (arith, e))
  none_passes false w e = refl

  -- where none passes, they have no weight
  pub no_weight : (ps : List P) → count_by test ps ≡ 0 → sum_by (λ p. cond (test p) (weight p) 0) ps ≡ 0
  no_weight [] none = refl
  no_weight (p ∷ ps) none =
      let counted = sum_by-cons (λ (q : P). cond (test q) 1 0) p ps in omega (
        arith,
        sum_by-cons (λ (q : P). cond (test q) (weight q) 0) p ps,
        none_passes (test p) (weight p) (omega (arith, counted, none)),
        no_weight ps (omega (arith, counted, none)),
      )
