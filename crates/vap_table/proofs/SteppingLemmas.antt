-- Counts and a list of numbers gone through together, from the least number on.
use Rattle.std.proofs.Common.{◌≡◌, ◌⊎◌, inl, inr, ℕ, zero, suc, nat_eq, ◌+◌, ◌-◌, ◌<◌, ◌≤◌, ◌≢◌, Bool, true, false, cond, ◌||◌, ◌&&◌, List, [], ◌∷◌, ◌++◌, length, replicate, take, drop, take-append-drop, slice_index_or, append_assoc, append-nil, Some, None, unwrap_or, option_to_list, IfSome, Less, refl, sym, ap, subst, ◌∙◌, arith, true≢false}
use Rattle.std.specs.declared.option.Option.{Option}
use Rattle.std.specs.Ordering.{nat_cmp}
use Rattle.std.specs.Cmp.{nat_eq_equiv, nat_cmp_is}
use Rattle.std.specs.List.{All, AllByRecursion}
use Rattle.std.specs.List.Sorted.{IsStrictlySortedBy, IsNonDecreasing, IsNonDecreasingBy, IsPartitionPoint}
use Rattle.std.proofs.Math.Bool.{or-true}
use Rattle.std.proofs.Math.ListN.{get_or-map}
use Rattle.std.proofs.lemmas.Bool.{false_from_ne_true}
use Rattle.std.proofs.lemmas.Bool.Decides.{nat_tests}
use Rattle.std.proofs.lemmas.Grind.{common_steps}
use Rattle.std.proofs.lemmas.List.{length-map}
use Rattle.std.proofs.lemmas.List.Sums.{sum_by-cons}
use Rattle.std.proofs.lemmas.List.Elements.{All-from_recursion, recursion_from_All}
use Rattle.std.proofs.lemmas.Map.Keys.{sorted_head, sorted_tail, non_decreasing_from_sorted}
use Rattle.std.proofs.lemmas.Map.Views.{exact_unsigned_eq}
use Rattle.path_model.specs.Authority.{has}
use Rattle.vap_table.specs.declared.tally.Given.{Given}
use Rattle.vap_table.specs.declared.stepping.Step.{Step}
use Rattle.vap_table.specs.declared.stepping.Step.TheVariants.{SourceMore, SourceLess, AssertionMore, AssertionLess}
use Rattle.vap_table.specs.Tally.{counted}
use Rattle.vap_table.specs.Stepping.{numbers_of, one, pair_of, stepped, stepped_pair, times, listed, uncounted, ArePartedAt, AreStepped, IsBehind}
use Rattle.attestations.proofs.MovesLemmas.{or_left, or_right}

less_is : (a b : ℕ) → a < b → nat_cmp a b ≡ Less
less_is a b lt = sym (nat_cmp_is a b Less lt)

less_from : (a b : ℕ) → nat_cmp a b ≡ Less → a < b
less_from a b e = grind (arith, common_steps)

or_cases : (b c : Bool) → (b || c) ≡ true → (b ≡ true) ⊎ (c ≡ true)
or_cases true c e = inl refl
or_cases false c e = inr e

or_first : (b c : Bool) → b ≡ true → (b || c) ≡ true
or_first true c e = refl
or_first false c e = absurd (true≢false (sym e))

or_second : (b c : Bool) → c ≡ true → (b || c) ≡ true
or_second b c e = ap (λ (t : Bool). b || t) e ∙ or-true b

itself : (x : ℕ) → nat_eq x x ≡ true
itself x = nat_eq_equiv.refl x

pub not_below_itself : (x : ℕ) → x < x → ⊥
not_below_itself x lt = omega (arith, lt)

pub apart : (x y : ℕ) → x < y → nat_eq x y ≡ false
apart x y lt = false_from_ne_true (nat_eq x y) (λ same. not_below_itself y (subst (λ (k : ℕ). k < y) (exact_unsigned_eq x y same) lt))

pub above_all : (k : ℕ) (xs : List ℕ) (y : ℕ) → AllByRecursion (λ z. nat_cmp k z ≡ Less) xs → has xs y ≡ true → k < y
above_all k [] y all there = absurd (true≢false (sym there))
above_all k (x ∷ xs) y all there = elim (or_cases (nat_eq x y) (has xs y) there) [
  | inl same ↦ subst (λ (z : ℕ). k < z) (exact_unsigned_eq x y same) (less_from k x all.0)
  | inr later ↦ above_all k xs y all.1 later
]

-- ---- what is counted of a number

pub not_counted : (gs : List Given) (y : ℕ) → has (numbers_of gs) y ≡ false → counted gs y ≡ (0, 0)
not_counted [] y out = refl
not_counted (g ∷ gs) y out = ap (λ (b : Bool). cond b (g.sources, g.assertions) (counted gs y)) (or_left (nat_eq g.provider y) (has (numbers_of gs) y) out)
    ∙ not_counted gs y (or_right (nat_eq g.provider y) (has (numbers_of gs) y) out)

counted_behind : (gs hs : List Given) (y : ℕ) → has (numbers_of gs) y ≡ false → counted (gs ++ hs) y ≡ counted hs y
counted_behind [] hs y out = refl
counted_behind (g ∷ gs) hs y out = ap (λ (b : Bool). cond b (g.sources, g.assertions) (counted (gs ++ hs) y)) (or_left (nat_eq g.provider y) (has (numbers_of gs) y) out)
    ∙ counted_behind gs hs y (or_right (nat_eq g.provider y) (has (numbers_of gs) y) out)

counted_before : (gs hs : List Given) (y : ℕ) → counted hs y ≡ (0, 0) → counted (gs ++ hs) y ≡ counted gs y
counted_before [] hs y none = none
counted_before (g ∷ gs) hs y none = ap (λ (p : ℕ × ℕ). cond (nat_eq g.provider y) (g.sources, g.assertions) p) (counted_before gs hs y none)

pub both_none : (a b : ℕ) → (nat_eq a 0 && nat_eq b 0) ≡ true → (a ≡ 0) × (b ≡ 0)
both_none a b e = by (nat_eq a 0) refl e where
  by : (t : Bool) → nat_eq a 0 ≡ t → (t && nat_eq b 0) ≡ true → (a ≡ 0) × (b ≡ 0)
  by true s f = (exact_unsigned_eq a 0 s, exact_unsigned_eq b 0 f)
  by false s f = absurd (true≢false (sym f))

pub some_held : (a b : ℕ) → (nat_eq a 0 && nat_eq b 0) ≡ false → 0 < a + b
some_held a b e = grind (arith, nat_tests)

-- a number that isn't listed is counted as it would be
counted_listed : (one : Given) (b : Bool) → (nat_eq one.sources 0 && nat_eq one.assertions 0) ≡ b → counted (cond b [] (one ∷ [])) one.provider ≡ pair_of one
counted_listed one true e = let none = both_none one.sources one.assertions e in λ i. (sym none.0 i, sym none.1 i)
counted_listed one false e = ap (λ (b : Bool). cond b (one.sources, one.assertions) (0, 0)) (itself one.provider)

counted_apart : (one : Given) (y : ℕ) (b : Bool) → nat_eq one.provider y ≡ false → counted (cond b [] (one ∷ [])) y ≡ (0, 0)
counted_apart one y true other = refl
counted_apart one y false other = ap (λ (t : Bool). cond t (one.sources, one.assertions) (0, 0)) other

-- ---- one number more behind the others

rises_behind : (k : ℕ) (gs : List Given) (one : Given) (b : Bool) → AllByRecursion (λ y. nat_cmp k y ≡ Less) (numbers_of gs) → nat_cmp k one.provider ≡ Less
    → AllByRecursion (λ y. nat_cmp k y ≡ Less) (numbers_of (gs ++ cond b [] (one ∷ [])))
rises_behind k [] one true all e = tt
rises_behind k [] one false all e = (e, tt)
rises_behind k (g ∷ gs) one b all e = (all.0, rises_behind k gs one b all.1 e)

rises_more : (gs : List Given) (one : Given) (b : Bool) → IsStrictlySortedBy nat_cmp (numbers_of gs) → ((x : ℕ) → has (numbers_of gs) x ≡ true → x < one.provider)
    → IsStrictlySortedBy nat_cmp (numbers_of (gs ++ cond b [] (one ∷ [])))
unfolding IsStrictlySortedBy
rises_more [] one true sorted below = tt
rises_more [] one false sorted below = (tt, tt)
rises_more (g ∷ gs) one b sorted below = (
  rises_behind g.provider gs one b sorted.0 (less_is g.provider one.provider (below g.provider (or_first (nat_eq g.provider g.provider) (has (numbers_of gs) g.provider) (itself g.provider)))),
  rises_more gs one b sorted.1 (λ x there. below x (or_second (nat_eq g.provider x) (has (numbers_of gs) x) there)),
)

held_more : (gs : List Given) (one : Given) (b : Bool) → (nat_eq one.sources 0 && nat_eq one.assertions 0) ≡ b → AllByRecursion (λ (g : Given). 0 < g.sources + g.assertions) gs
    → AllByRecursion (λ (g : Given). 0 < g.sources + g.assertions) (gs ++ cond b [] (one ∷ []))
held_more [] one true e all = tt
held_more [] one false e all = (some_held one.sources one.assertions e, tt)
held_more (g ∷ gs) one b e all = (all.0, held_more gs one b e all.1)

member_more : (gs : List Given) (one : Given) (b : Bool) (x : ℕ) → has (numbers_of (gs ++ cond b [] (one ∷ []))) x ≡ true → (has (numbers_of gs) x ≡ true) ⊎ (one.provider ≡ x)
member_more [] one true x there = absurd (true≢false (sym there))
member_more [] one false x there = elim (or_cases (nat_eq one.provider x) false there) [
  | inl same ↦ inr (exact_unsigned_eq one.provider x same)
  | inr none ↦ absurd (true≢false (sym none))
]
member_more (g ∷ gs) one b x there = elim (or_cases (nat_eq g.provider x) (has (numbers_of (gs ++ cond b [] (one ∷ []))) x) there) [
  | inl same ↦ inl (or_first (nat_eq g.provider x) (has (numbers_of gs) x) same)
  | inr later ↦ elim (member_more gs one b x later) [
    | inl among ↦ inl (or_second (nat_eq g.provider x) (has (numbers_of gs) x) among)
    | inr same ↦ inr same
  ]
]

-- ---- a list that doesn't fall

none_more : (n : ℕ) → 0 + n ≡ n
none_more n = omega arith

one_more : (n : ℕ) → 1 + n ≡ suc n
one_more n = omega arith

pub times_first : (n : ℕ) (ns : List ℕ) (y : ℕ) → times (n ∷ ns) y ≡ one (nat_eq n y) + times ns y
times_first n ns y = sum_by-cons (λ (m : ℕ). one (nat_eq m y)) n ns

times_none : (ns : List ℕ) (y : ℕ) → has ns y ≡ false → times ns y ≡ 0
times_none [] y out = refl
times_none (n ∷ ns) y out = times_first n ns y ∙ (λ i. one (or_left (nat_eq n y) (has ns y) out i) + times_none ns y (or_right (nat_eq n y) (has ns y) out) i)

not_above : (p : ℕ) (ys : List ℕ) → ((y : ℕ) → has ys y ≡ true → p < y) → has ys p ≡ false
not_above p ys above = false_from_ne_true (has ys p) (λ there. not_below_itself p (above p there))

-- each is at least the one before it
abbrev pub AreRising : List ℕ → Type 0
AreRising [] = Unit {0}
AreRising (n ∷ ns) = AllByRecursion (λ y. n ≤ y) ns × AreRising ns

pub rising_from : (ns : List ℕ) → IsNonDecreasing ns → AreRising ns
rising_from [] rising = tt
rising_from (n ∷ ns) rising = (
  recursion_from_All (λ (y : ℕ). n ≤ y) ns (λ k d lt. rising 0 (suc k) d (omega arith) (omega (arith, lt))),
  rising_from ns (λ i j d le lt. rising (suc i) (suc j) d (omega (arith, le)) (omega (arith, lt))),
)

-- in a strictly rising list each number is once
pub times_once : (ns : List ℕ) (y : ℕ) → IsStrictlySortedBy nat_cmp ns → times ns y ≡ one (has ns y)
times_once [] y rising = refl
times_once (n ∷ ns) y rising = times_first n ns y ∙ by (nat_eq n y) refl (times_once ns y (sorted_tail nat_cmp n ns rising)) where
  by : (b : Bool) → nat_eq n y ≡ b → times ns y ≡ one (has ns y) → one b + times ns y ≡ one (b || has ns y)
  by true e later = ap (λ (k : ℕ). 1 + k) (times_none ns y (not_above y ns (λ z there. subst (λ (k : ℕ). k < z) (exact_unsigned_eq n y e) (above_all n ns z (sorted_head nat_cmp n ns rising) there))))
  by false e later = none_more (times ns y) ∙ later

-- the least number of a list is so often in it, and these are behind it
pub record IsFirst (numbers : List ℕ) (n often : ℕ) (ys : List ℕ) : Type 0 where
  pub there : has numbers n ≡ true
  pub number : times numbers n ≡ often
  pub above : (y : ℕ) → has ys y ≡ true → n < y
  pub others : (y : ℕ) → nat_eq n y ≡ false → has ys y ≡ has numbers y
  pub other_times : (y : ℕ) → nat_eq n y ≡ false → times ys y ≡ times numbers y
  pub rise : AreRising ys

at_least : (k : ℕ) (ys : List ℕ) (y : ℕ) → AllByRecursion (λ z. k ≤ z) ys → has ys y ≡ true → k ≤ y
at_least k [] y all there = absurd (true≢false (sym there))
at_least k (x ∷ xs) y all there = elim (or_cases (nat_eq x y) (has xs y) there) [
  | inl same ↦ subst (λ (z : ℕ). k ≤ z) (exact_unsigned_eq x y same) all.0
  | inr later ↦ at_least k xs y all.1 later
]

all_above : (n : ℕ) (ys : List ℕ) → AllByRecursion (λ y. n ≤ y) ys → AreRising ys → ((more : List ℕ) → ys ≡ n ∷ more → ⊥) → (y : ℕ) → has ys y ≡ true → n < y
all_above n [] all rising other y there = absurd (true≢false (sym there))
all_above n (x ∷ xs) all rising other y there =
    let apart : n ≢ x = λ same. other xs (ap (λ (k : ℕ). k ∷ xs) (sym same)) in
    let least : x ≤ y = at_least x (x ∷ xs) y (omega arith, rising.0) there in
    let le : n ≤ x = all.0 in
    omega (arith, least, le, apart)

first_more : (n : ℕ) (numbers : List ℕ) (often : ℕ) (ys : List ℕ) → IsFirst numbers n often ys → IsFirst (n ∷ numbers) n (suc often) ys
first_more n numbers often ys first = record {
  there = or_first (nat_eq n n) (has numbers n) (itself n);
  number = times_first n numbers n ∙ (λ i. one (itself n i) + first.number i) ∙ one_more often;
  above = first.above;
  others = λ y other. first.others y other ∙ sym (ap (λ (b : Bool). b || has numbers y) other);
  other_times = λ y other. first.other_times y other ∙ sym (times_first n numbers y ∙ ap (λ (b : Bool). one b + times numbers y) other ∙ none_more (times numbers y));
  rise = first.rise;
}

first_of : (n k : ℕ) (ys : List ℕ) → AreRising (n ∷ (replicate k n ++ ys)) → ((more : List ℕ) → ys ≡ n ∷ more → ⊥) → IsFirst (n ∷ (replicate k n ++ ys)) n (suc k) ys
first_of n zero ys rising other = let above = all_above n ys rising.0 rising.1 other in record {
  there = or_first (nat_eq n n) (has ys n) (itself n);
  number = times_first n ys n ∙ (λ i. one (itself n i) + times_none ys n (not_above n ys above) i);
  above = above;
  others = λ y apart. sym (ap (λ (b : Bool). b || has ys y) apart);
  other_times = λ y apart. sym (times_first n ys y ∙ ap (λ (b : Bool). one b + times ys y) apart ∙ none_more (times ys y));
  rise = rising.1;
}
first_of n (suc k) ys rising other = first_more n (n ∷ (replicate k n ++ ys)) (suc k) ys (first_of n k ys rising.1 other)

how_many : (often : ℕ) (n : ℕ) (ys : List ℕ) → length (replicate often n ++ ys) ≡ often + length ys
how_many zero n ys = sym (none_more (length ys))
how_many (suc often) n ys = ap suc (how_many often n ys) ∙ one_further_on often (length ys) where
  one_further_on : (a b : ℕ) → suc (a + b) ≡ suc a + b
  one_further_on a b = omega arith

-- the first number of a list, with those behind it that are other ones
pub first_behind : (numbers : List ℕ) (n : ℕ) (more ys : List ℕ) → numbers ≡ n ∷ more → IsBehind n more ys → AreRising numbers → IsFirst numbers n (length numbers - length ys) ys
first_behind numbers n more ys e behind rising =
    let k : ℕ = behind.often in
    let whole : numbers ≡ n ∷ (replicate k n ++ ys) = e ∙ ap (λ (xs : List ℕ). n ∷ xs) behind.whole in
    let long : length numbers ≡ suc (k + length ys) = ap (λ (xs : List ℕ). length xs) whole ∙ ap suc (how_many k n ys) in
    let often : suc k ≡ length numbers - length ys = omega (arith, long) in
    subst (λ (m : ℕ). IsFirst numbers n m ys) often
    (subst (λ (xs : List ℕ). IsFirst xs n (suc k) ys) (sym whole) (first_of n k ys (subst AreRising whole rising) behind.other))

-- the items that are gone through are so many times this number
pub record Repeats (n : ℕ) (list left : List ℕ) : Type 0 where
  pub often : ℕ
  pub whole : list ≡ replicate often n ++ left

pub repeats_start : (n : ℕ) (list : List ℕ) → Repeats n list list
repeats_start n list = record { often = 0; whole = refl }

one_further : (k n : ℕ) (xs : List ℕ) → replicate k n ++ n ∷ xs ≡ replicate (suc k) n ++ xs
one_further zero n xs = refl
one_further (suc k) n xs = ap (λ (l : List ℕ). n ∷ l) (one_further k n xs)

pub repeats_next : (n : ℕ) (list left more : List ℕ) (first : ℕ) → left ≡ first ∷ more → first ≡ n → Repeats n list left → Repeats n list more
repeats_next n list left more first e same so_far = record {
  often = suc so_far.often;
  whole = so_far.whole ∙ ap (λ (l : List ℕ). replicate so_far.often n ++ l) (e ∙ ap (λ (k : ℕ). k ∷ more) same) ∙ one_further so_far.often n more;
}

pub repeats_fewer : (n : ℕ) (list left : List ℕ) → Repeats n list left → length left ≤ length list
repeats_fewer n list left so_far = let long : length list ≡ so_far.often + length left = ap (λ (xs : List ℕ). length xs) so_far.whole ∙ how_many so_far.often n left in omega (arith, long)

-- ---- the least number

-- the number is counted or in the list
abbrev pub is_left : List Given → List ℕ → ℕ → Bool
is_left counts numbers y = has (numbers_of counts) y || has numbers y

-- The least number of these counts and of this list, with what is counted of it, how often it is in the list, and what is left behind it.
pub record IsNextOf (counts : List Given) (numbers : List ℕ) (one : Given) (often : ℕ) (counts' : List Given) (numbers' : List ℕ) : Type 0 where
  pub there : is_left counts numbers one.provider ≡ true
  pub pair : counted counts one.provider ≡ pair_of one
  pub in_list : times numbers one.provider ≡ often
  pub below : (y : ℕ) → is_left counts' numbers' y ≡ true → one.provider < y
  pub other_counts : (y : ℕ) → nat_eq one.provider y ≡ false → counted counts' y ≡ counted counts y
  pub others_left : (y : ℕ) → nat_eq one.provider y ≡ false → is_left counts' numbers' y ≡ is_left counts numbers y
  pub other_numbers : (y : ℕ) → nat_eq one.provider y ≡ false → times numbers' y ≡ times numbers y
  pub counts_rise : IsStrictlySortedBy nat_cmp (numbers_of counts')
  pub numbers_rise : AreRising numbers'

count_next : (g : Given) (gs : List Given) (ys : List ℕ) → IsStrictlySortedBy nat_cmp (numbers_of (g ∷ gs)) → AreRising ys → ((y : ℕ) → has ys y ≡ true → g.provider < y)
    → IsNextOf (g ∷ gs) ys g 0 gs ys
count_next g gs ys counts_rise numbers_rise above = let p : ℕ = g.provider in record {
  there = ap (λ (b : Bool). (b || has (numbers_of gs) p) || has ys p) (itself p);
  pair = ap (λ (b : Bool). cond b (g.sources, g.assertions) (counted gs p)) (itself p);
  in_list = times_none ys p (not_above p ys above);
  below = λ y left. elim (or_cases (has (numbers_of gs) y) (has ys y) left) [
    | inl among ↦ above_all p (numbers_of gs) y (sorted_head nat_cmp p (numbers_of gs) counts_rise) among
    | inr there ↦ above y there
  ];
  other_counts = λ y other. sym (ap (λ (b : Bool). cond b (g.sources, g.assertions) (counted gs y)) other);
  others_left = λ y other. sym (ap (λ (b : Bool). (b || has (numbers_of gs) y) || has ys y) other);
  other_numbers = λ y other. refl;
  counts_rise = sorted_tail nat_cmp p (numbers_of gs) counts_rise;
  numbers_rise = numbers_rise;
}

number_next : (gs : List Given) (numbers : List ℕ) (n often : ℕ) (ys : List ℕ) → IsStrictlySortedBy nat_cmp (numbers_of gs) → IsFirst numbers n often ys → ((y : ℕ) → has (numbers_of gs) y ≡ true → n < y)
    → IsNextOf gs numbers (uncounted n) often gs ys
number_next gs numbers n often ys counts_rise first above = record {
  there = or_second (has (numbers_of gs) n) (has numbers n) first.there;
  pair = not_counted gs n (not_above n (numbers_of gs) above);
  in_list = first.number;
  below = λ y left. elim (or_cases (has (numbers_of gs) y) (has ys y) left) [
    | inl among ↦ above y among
    | inr there ↦ first.above y there
  ];
  other_counts = λ y other. refl;
  others_left = λ y other. ap (λ (b : Bool). has (numbers_of gs) y || b) (first.others y other);
  other_numbers = first.other_times;
  counts_rise = counts_rise;
  numbers_rise = first.rise;
}

both_next : (g : Given) (gs : List Given) (numbers : List ℕ) (often : ℕ) (ys : List ℕ) → IsStrictlySortedBy nat_cmp (numbers_of (g ∷ gs)) → IsFirst numbers g.provider often ys → IsNextOf (g ∷ gs) numbers g often gs ys
both_next g gs numbers often ys counts_rise first = let p : ℕ = g.provider in record {
  there = ap (λ (b : Bool). (b || has (numbers_of gs) p) || has numbers p) (itself p);
  pair = ap (λ (b : Bool). cond b (g.sources, g.assertions) (counted gs p)) (itself p);
  in_list = first.number;
  below = λ y left. elim (or_cases (has (numbers_of gs) y) (has ys y) left) [
    | inl among ↦ above_all p (numbers_of gs) y (sorted_head nat_cmp p (numbers_of gs) counts_rise) among
    | inr there ↦ first.above y there
  ];
  other_counts = λ y other. sym (ap (λ (b : Bool). cond b (g.sources, g.assertions) (counted gs y)) other);
  others_left = λ y other. ap (λ (b : Bool). has (numbers_of gs) y || b) (first.others y other) ∙ sym (ap (λ (b : Bool). (b || has (numbers_of gs) y) || has numbers y) other);
  other_numbers = first.other_times;
  counts_rise = sorted_tail nat_cmp p (numbers_of gs) counts_rise;
  numbers_rise = first.rise;
}

-- the first of rising numbers is below the others
pub above_head : (k n : ℕ) (ys : List ℕ) → k < n → IsStrictlySortedBy nat_cmp (n ∷ ys) → (y : ℕ) → has (n ∷ ys) y ≡ true → k < y
above_head k n ys lt rising y there = elim (or_cases (nat_eq n y) (has ys y) there) [
  | inl same ↦ subst (λ (z : ℕ). k < z) (exact_unsigned_eq n y same) lt
  | inr later ↦ let more : n < y = above_all n ys y (sorted_head nat_cmp n ys rising) later in omega (arith, lt, more)
]

-- ---- the loop

-- something holds each
abbrev AreHeld : List Given → Type 0
AreHeld gs = AllByRecursion (λ (g : Given). 0 < g.sources + g.assertions) gs

-- the step is taken for the numbers that aren't left, and these are behind those
pub record Stepping (step : Step) (given : List Given) (list : List ℕ) (done counts : List Given) (numbers : List ℕ) : Type 0 where
  pub done_rise : IsStrictlySortedBy nat_cmp (numbers_of done)
  pub held : AreHeld done
  pub counts_rise : IsStrictlySortedBy nat_cmp (numbers_of counts)
  pub counts_held : AreHeld counts
  pub numbers_rise : AreRising numbers
  pub below : (x y : ℕ) → has (numbers_of done) x ≡ true → is_left counts numbers y ≡ true → x < y
  pub pending_counts : (y : ℕ) → is_left counts numbers y ≡ true → counted counts y ≡ counted given y
  pub pending_list : (y : ℕ) → is_left counts numbers y ≡ true → times numbers y ≡ times list y
  pub complete : (y : ℕ) → is_left counts numbers y ≡ false → counted done y ≡ stepped_pair step (times list y) (counted given y)

nothing_sorted : (done : List Given) → done ≡ [] → IsStrictlySortedBy nat_cmp (numbers_of done)
unfolding IsStrictlySortedBy
nothing_sorted done none = subst (λ (gs : List Given). IsStrictlySortedBy nat_cmp (numbers_of gs)) (sym none) tt

nothing_stepped : (step : Step) → stepped_pair step 0 (0, 0) ≡ (0, 0)
nothing_stepped SourceMore = refl
nothing_stepped SourceLess = refl
nothing_stepped AssertionMore = refl
nothing_stepped AssertionLess = refl

pub stepping_start : (step : Step) (given : List Given) (list : List ℕ) (done : List Given) → done ≡ [] → IsStrictlySortedBy nat_cmp (numbers_of given) → All (λ (g : Given). 0 < g.sources + g.assertions) given
    → IsNonDecreasing list → Stepping step given list done given list
stepping_start step given list done none counts_rise counts_held numbers_rise = record {
  done_rise = nothing_sorted done none;
  held = subst AreHeld (sym none) tt;
  counts_rise = counts_rise;
  counts_held = recursion_from_All (λ (g : Given). 0 < g.sources + g.assertions) given counts_held;
  numbers_rise = rising_from list numbers_rise;
  below = λ x y there left. absurd (true≢false (sym there ∙ ap (λ (gs : List Given). has (numbers_of gs) x) none));
  pending_counts = λ y left. refl;
  pending_list = λ y left. refl;
  complete = λ y out. ap (λ (gs : List Given). counted gs y) none
      ∙ sym ((λ i. stepped_pair step (times_none list y (or_right (has (numbers_of given) y) (has list y) out) i) (not_counted given y (or_left (has (numbers_of given) y) (has list y) out) i)) ∙ nothing_stepped step);
}

same_provider : (step : Step) (often : ℕ) (one : Given) → (stepped step often one).provider ≡ one.provider
same_provider SourceMore often one = refl
same_provider SourceLess often one = refl
same_provider AssertionMore often one = refl
same_provider AssertionLess often one = refl

pair_after : (step : Step) (often : ℕ) (one : Given) → pair_of (stepped step often one) ≡ stepped_pair step often (pair_of one)
pair_after SourceMore often one = refl
pair_after SourceLess often one = refl
pair_after AssertionMore often one = refl
pair_after AssertionLess often one = refl

module _ (step : Step) (given : List Given) (list : List ℕ) (done counts : List Given) (numbers : List ℕ) (one : Given) (often : ℕ) (counts' : List Given) (numbers' : List ℕ)
    (next : IsNextOf counts numbers one often counts' numbers') (held' : AreHeld counts') (so_far : Stepping step given list done counts numbers) where
  abbrev after : Given
  after = stepped step often one

  abbrev none : Bool
  none = nat_eq (stepped step often one).sources 0 && nat_eq (stepped step often one).assertions 0

  same : after.provider ≡ one.provider
  same = same_provider step often one

  still_left : (y : ℕ) → is_left counts' numbers' y ≡ true → is_left counts numbers y ≡ true
  still_left y left = sym (next.others_left y (apart one.provider y (next.below y left))) ∙ left

  new_to_done : has (numbers_of done) one.provider ≡ false
  new_to_done = false_from_ne_true (has (numbers_of done) one.provider) (λ there. not_below_itself one.provider (so_far.below one.provider one.provider there next.there))

  complete_here : counted (done ++ listed after) one.provider ≡ stepped_pair step (times list one.provider) (counted given one.provider)
  complete_here = counted_behind done (listed after) one.provider new_to_done
      ∙ ap (λ (y : ℕ). counted (listed after) y) (sym same) ∙ counted_listed after none refl ∙ pair_after step often one
      ∙ (λ i. stepped_pair step ((sym next.in_list ∙ so_far.pending_list one.provider next.there) i) ((sym next.pair ∙ so_far.pending_counts one.provider next.there) i))

  complete_other : (y : ℕ) → nat_eq one.provider y ≡ false → is_left counts' numbers' y ≡ false → counted (done ++ listed after) y ≡ stepped_pair step (times list y) (counted given y)
  complete_other y other out = counted_before done (listed after) y (counted_apart after y none (ap (λ (k : ℕ). nat_eq k y) same ∙ other))
      ∙ so_far.complete y (sym (next.others_left y other) ∙ out)

  complete_by : (y : ℕ) (t : Bool) → nat_eq one.provider y ≡ t → is_left counts' numbers' y ≡ false → counted (done ++ listed after) y ≡ stepped_pair step (times list y) (counted given y)
  complete_by y true e out = subst (λ (k : ℕ). counted (done ++ listed after) k ≡ stepped_pair step (times list k) (counted given k)) (exact_unsigned_eq one.provider y e) complete_here
  complete_by y false e out = complete_other y e out

  stepping_next : Stepping step given list (done ++ listed after) counts' numbers'
  stepping_next = record {
    done_rise = rises_more done after none so_far.done_rise (λ x there. subst (λ (k : ℕ). x < k) (sym same) (so_far.below x one.provider there next.there));
    held = held_more done after none refl so_far.held;
    counts_rise = next.counts_rise;
    counts_held = held';
    numbers_rise = next.numbers_rise;
    below = λ x y there left. elim (member_more done after none x there) [
      | inl among ↦ so_far.below x y among (still_left y left)
      | inr is ↦ subst (λ (k : ℕ). k < y) (sym same ∙ is) (next.below y left)
    ];
    pending_counts = λ y left. next.other_counts y (apart one.provider y (next.below y left)) ∙ so_far.pending_counts y (still_left y left);
    pending_list = λ y left. next.other_numbers y (apart one.provider y (next.below y left)) ∙ so_far.pending_list y (still_left y left);
    complete = λ y out. complete_by y (nat_eq one.provider y) refl out;
  }

-- ---- counts between two numbers of the list

listed_held : (g : Given) → 0 < g.sources + g.assertions → listed g ≡ g ∷ []
listed_held g held = by (nat_eq g.sources 0 && nat_eq g.assertions 0) refl where
  by : (b : Bool) → (nat_eq g.sources 0 && nat_eq g.assertions 0) ≡ b → cond b [] (g ∷ []) ≡ g ∷ []
  by true e = let none = both_none g.sources g.assertions e in absurd (omega (arith, held, none.0, none.1))
  by false e = refl

held_behind : (gs hs : List Given) → AreHeld (gs ++ hs) → AreHeld hs
held_behind [] hs all = all
held_behind (g ∷ gs) hs all = held_behind gs hs all.1

-- no step leaves the counts as they are
stepped_none : (step : Step) (g : Given) → stepped step 0 g ≡ g
stepped_none SourceMore g = let same : g.sources + 0 ≡ g.sources = omega arith in ap (λ (k : ℕ). record g { sources = k }) same
stepped_none SourceLess g = let same : g.sources - 0 ≡ g.sources = omega arith in ap (λ (k : ℕ). record g { sources = k }) same
stepped_none AssertionMore g = let same : g.assertions + 0 ≡ g.assertions = omega arith in ap (λ (k : ℕ). record g { assertions = k }) same
stepped_none AssertionLess g = let same : g.assertions - 0 ≡ g.assertions = omega arith in ap (λ (k : ℕ). record g { assertions = k }) same

-- those below the list's numbers stay as they are
stepping_past : (step : Step) (given : List Given) (list : List ℕ) (done below rest : List Given) (numbers : List ℕ) → ((x y : ℕ) → has (numbers_of below) x ≡ true → has numbers y ≡ true → x < y)
    → Stepping step given list done (below ++ rest) numbers → Stepping step given list (done ++ below) rest numbers
stepping_past step given list done [] rest numbers lower so_far = subst (λ (gs : List Given). Stepping step given list gs rest numbers) (sym (append-nil done)) so_far
stepping_past step given list done (g ∷ gs) rest numbers lower so_far =
    let first : has (numbers_of (g ∷ gs)) g.provider ≡ true = or_first (nat_eq g.provider g.provider) (has (numbers_of gs) g.provider) (itself g.provider) in
    let next : IsNextOf (g ∷ (gs ++ rest)) numbers g 0 (gs ++ rest) numbers
    = count_next g (gs ++ rest) numbers so_far.counts_rise so_far.numbers_rise (λ y there. lower g.provider y first there) in
    let more : Stepping step given list (done ++ g ∷ []) (gs ++ rest) numbers
    = subst (λ (l : List Given). Stepping step given list (done ++ l) (gs ++ rest) numbers) (ap listed (stepped_none step g) ∙ listed_held g so_far.counts_held.0)
    (stepping_next step given list done (g ∷ (gs ++ rest)) numbers g 0 (gs ++ rest) numbers next so_far.counts_held.1 so_far) in
    subst (λ (l : List Given). Stepping step given list l rest numbers) (append_assoc done (g ∷ []) gs)
    (stepping_past step given list (done ++ g ∷ []) gs rest numbers (λ x y there here. lower x y (or_second (nat_eq g.provider x) (has (numbers_of gs) x) there) here) more)

next_parted : (one : Option Given) (above : List Given) (numbers : List ℕ) (n often : ℕ) (ys : List ℕ) → IfSome one (λ g. g.provider ≡ n) → ((y : ℕ) → has (numbers_of above) y ≡ true → n < y)
    → IsStrictlySortedBy nat_cmp (numbers_of (option_to_list one ++ above)) → IsFirst numbers n often ys
    → IsNextOf (option_to_list one ++ above) numbers (unwrap_or one (uncounted n)) often above ys
next_parted None above numbers n often ys of_it behind counts_rise first = number_next above numbers n often ys counts_rise first behind
next_parted (Some g) above numbers n often ys of_it behind counts_rise first = both_next g above numbers often ys counts_rise (subst (λ (k : ℕ). IsFirst numbers k often ys) (sym of_it) first)

first_least : (numbers : List ℕ) (n often : ℕ) (ys : List ℕ) → IsFirst numbers n often ys → (y : ℕ) → has numbers y ≡ true → n ≤ y
first_least numbers n often ys first y there = by (nat_eq n y) refl where
  by : (b : Bool) → nat_eq n y ≡ b → n ≤ y
  by true e = let same : n ≡ y = exact_unsigned_eq n y e in omega (arith, same)
  by false e = let lt : n < y = first.above y (first.others y e ∙ there) in omega (arith, lt)

-- the least number of the list, and the counts up to it
pub stepping_at : (step : Step) (given : List Given) (list : List ℕ) (done counts : List Given) (numbers : List ℕ) (n often : ℕ) (ys : List ℕ) (below : List Given) (one : Option Given) (above : List Given)
    → IsFirst numbers n often ys → ArePartedAt counts n below one above → Stepping step given list done counts numbers
    → Stepping step given list ((done ++ below) ++ listed (stepped step often (unwrap_or one (uncounted n)))) above ys
stepping_at step given list done counts numbers n often ys below one above first parted so_far =
    let here : Stepping step given list done (below ++ (option_to_list one ++ above)) numbers
    = subst (λ (cs : List Given). Stepping step given list done cs numbers) parted.whole so_far in
    let lower : (x y : ℕ) → has (numbers_of below) x ≡ true → has numbers y ≡ true → x < y
    = λ x y there later. (let lt : x < n = parted.before x there in let le : n ≤ y = first_least numbers n often ys first y later in omega (arith, lt, le)) in
    let past : Stepping step given list (done ++ below) (option_to_list one ++ above) numbers = stepping_past step given list done below (option_to_list one ++ above) numbers lower here in
    stepping_next step given list (done ++ below) (option_to_list one ++ above) numbers (unwrap_or one (uncounted n)) often above ys
    (next_parted one above numbers n often ys parted.of_it parted.behind past.counts_rise first)
    (held_behind (option_to_list one) above past.counts_held) past

pub stepping_end : (step : Step) (given : List Given) (list : List ℕ) (done counts : List Given) (numbers : List ℕ) → numbers ≡ [] → Stepping step given list done counts numbers → AreStepped step given (times list) (done ++ counts)
stepping_end step given list done counts numbers none so_far =
    let past : Stepping step given list (done ++ counts) [] numbers
    = stepping_past step given list done counts [] numbers (λ x y there here. absurd (true≢false (sym here ∙ ap (λ (xs : List ℕ). has xs y) none)))
    (subst (λ (cs : List Given). Stepping step given list done cs numbers) (sym (append-nil counts)) so_far) in
    record {
      rising = past.done_rise;
      held = All-from_recursion (λ (g : Given). 0 < g.sources + g.assertions) (done ++ counts) past.held;
      each = λ y. past.complete y (ap (λ (xs : List ℕ). has xs y) none);
    }

-- ---- counts parted at a number

pub providers_rise : (gs : List Given) → IsStrictlySortedBy nat_cmp (numbers_of gs) → IsNonDecreasingBy (λ (g : Given). g.provider) gs
providers_rise gs rising i j d le lt =
    subst (λ (k : ℕ). k ≤ (slice_index_or gs j d).provider) (get_or-map (λ (g : Given). g.provider) gs i d)
    (subst (λ (k : ℕ). slice_index_or (numbers_of gs) i d.provider ≤ k) (get_or-map (λ (g : Given). g.provider) gs j d)
    (non_decreasing_from_sorted (numbers_of gs) rising i j d.provider le (subst (λ (k : ℕ). j < k) (sym (length-map gs (λ (g : Given). g.provider))) lt)))

taken_below : (gs : List Given) (p n : ℕ) → ((k : ℕ) (d : Given) → k < p → (slice_index_or gs k d).provider < n) → (y : ℕ) → has (numbers_of (take p gs)) y ≡ true → y < n
taken_below gs zero n all y there = absurd (true≢false (sym there))
taken_below [] (suc p) n all y there = absurd (true≢false (sym there))
taken_below (g ∷ gs) (suc p) n all y there = elim (or_cases (nat_eq g.provider y) (has (numbers_of (take p gs)) y) there) [
  | inl same ↦ subst (λ (z : ℕ). z < n) (exact_unsigned_eq g.provider y same) (all 0 g (omega arith))
  | inr later ↦ taken_below gs p n (λ k d lt. all (suc k) d (omega (arith, lt))) y later
]

first_dropped : (gs : List Given) (p n : ℕ) (g : Given) (more : List Given) → ((k : ℕ) (d : Given) → p ≤ k → k < length gs → n ≤ (slice_index_or gs k d).provider) → drop p gs ≡ g ∷ more → n ≤ g.provider
first_dropped [] zero n g more all e = absurd cc
first_dropped [] (suc p) n g more all e = absurd cc
first_dropped (h ∷ gs) zero n g more all e = let same : h ≡ g = cc in subst (λ (z : Given). n ≤ z.provider) same (all 0 h (omega arith) (omega arith))
first_dropped (h ∷ gs) (suc p) n g more all e = first_dropped gs p n g more (λ k d le lt. all (suc k) d (omega (arith, le)) (omega (arith, lt))) e

rising_behind : (gs hs : List Given) → IsStrictlySortedBy nat_cmp (numbers_of (gs ++ hs)) → IsStrictlySortedBy nat_cmp (numbers_of hs)
rising_behind [] hs rising = rising
rising_behind (g ∷ gs) hs rising = rising_behind gs hs (sorted_tail nat_cmp g.provider (numbers_of (gs ++ hs)) rising)

module _ (counts : List Given) (n p : ℕ) (below rest : List Given) (rising : IsStrictlySortedBy nat_cmp (numbers_of counts))
    (point : IsPartitionPoint (λ (g : Given). g.provider < n) (λ (g : Given). n ≤ g.provider) counts p) (front : below ≡ take p counts) (back : rest ≡ drop p counts) where
  parts : counts ≡ below ++ rest
  parts = sym ((λ i. front i ++ back i) ∙ take-append-drop p counts)

  all_before : (y : ℕ) → has (numbers_of below) y ≡ true → y < n
  all_before y there = taken_below counts p n (λ k d lt. point.0 k d (omega arith) lt) y (ap (λ (gs : List Given). has (numbers_of gs) y) (sym front) ∙ there)

  rest_rises : IsStrictlySortedBy nat_cmp (numbers_of rest)
  rest_rises = rising_behind below rest (subst (λ (gs : List Given). IsStrictlySortedBy nat_cmp (numbers_of gs)) parts rising)

  -- none is of it or above it,
  pub parted_at_end : rest ≡ [] → ArePartedAt counts n below None rest
  parted_at_end nothing = record {
    whole = parts;
    of_it = tt;
    before = all_before;
    behind = λ y there. absurd (true≢false (sym there ∙ ap (λ (gs : List Given). has (numbers_of gs) y) nothing));
  }

  module _ (g : Given) (above : List Given) (first : rest ≡ g ∷ above) where
    rises_from : IsStrictlySortedBy nat_cmp (numbers_of (g ∷ above))
    rises_from = subst (λ (gs : List Given). IsStrictlySortedBy nat_cmp (numbers_of gs)) first rest_rises

    -- or the first is of it,
    pub parted_at_one : g.provider ≡ n → ArePartedAt counts n below (Some g) above
    parted_at_one of_it = record {
      whole = parts ∙ ap (λ (gs : List Given). below ++ gs) first;
      of_it = of_it;
      before = all_before;
      behind = λ y there. subst (λ (k : ℕ). k < y) of_it (above_all g.provider (numbers_of above) y (sorted_head nat_cmp g.provider (numbers_of above) rises_from) there);
    }

    -- or it is above it
    pub parted_between : g.provider ≢ n → ArePartedAt counts n below None rest
    parted_between other = let le : n ≤ g.provider = first_dropped counts p n g above point.1 (sym back ∙ first) in record {
      whole = parts;
      of_it = tt;
      before = all_before;
      behind = λ y there. above_head n g.provider (numbers_of above) (omega (arith, le, other)) rises_from y (ap (λ (gs : List Given). has (numbers_of gs) y) (sym first) ∙ there);
    }
