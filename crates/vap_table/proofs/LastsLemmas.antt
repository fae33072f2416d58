-- Last moments that are listed, and the customers between two moments.
use Rattle.std.proofs.Common.{◌≡◌, ◌⊎◌, inl, inr, ℕ, nat_eq, ◌+◌, ◌<◌, ◌≤◌, Bool, true, false, cond, not, ◌||◌, ◌&&◌, List, [], ◌∷◌, ◌++◌, map, length, drop, get_or, None, Some, arith, refl, ap, sym, subst, ◌∙◌, true≢false}
use Rattle.std.specs.Prelude.{nat_lt, min, max, ◌-◌}
use Rattle.std.specs.declared.cmp.Ordering.{Ordering}
use Rattle.std.specs.declared.cmp.Ordering.TheVariants.{Less, Equal, Greater}
use Rattle.std.specs.declared.ops.Bound.TheVariants.{Included, Excluded}
use Rattle.std.specs.declared.option.Option.{Option}
use Rattle.std.specs.BTreeMap.{is_at}
use Rattle.std.specs.BTreeMap.Range.{range_contains}
use Rattle.std.specs.FinMap as finite
use Rattle.std.specs.Cmp.{nat_eq_equiv, nat_cmp_is, unsigned_tied}
use Rattle.std.specs.Cmp.Lexicographic.{pointwise}
use Rattle.std.specs.List.{list_any, filter}
use Rattle.std.specs.List.Sorted.{IsStrictlySortedBy}
use Rattle.std.specs.Ordering.{nat_cmp, ordering_then, is_eq, is_le}
use Rattle.std.proofs.lemmas.Bool.Decides.{nat_tests}
use Rattle.std.proofs.lemmas.List.{drop_more}
use Rattle.std.proofs.lemmas.List.Folds.{list_any-append}
use Rattle.std.proofs.lemmas.Map.Views.{exact_unsigned_eq}
use Rattle.attestations.specs.declared.term.Term.{Term}
use Rattle.path_model.specs.Authority.{has}
use Rattle.attestations.specs.ComputedTable.{attested}
use Rattle.attestations.specs.Terms.{TermMap, members, is_alive, alive_among, alive_of, terms_or_none}
use Rattle.vap_table.specs.Lasts.{all_terms, is_last, lasts_among, pair_cmp, has_last, SetsLast, AddsLasts, DropsLasts, AreLasts, AreLastsBut, HasNoneBetween, HasOneBetween}
use Rattle.vap_table.specs.Change.{with_source, terms_in}
use Rattle.vap_table.specs.Sources.{list_of, row_of_one, first_row}
use Rattle.vap_table.proofs.CurrentLemmas.{Filling, filling_next}
use Rattle.vap_table.proofs.SourcesLemmas.{none_of_empty}

and_swap : (a b : Bool) → (a && b) ≡ (b && a)
and_swap true true = refl
and_swap true false = refl
and_swap false true = refl
and_swap false false = refl

and_none : (a : Bool) → (a && false) ≡ false
and_none true = refl
and_none false = refl

or_none : (a : Bool) → (a || false) ≡ a
or_none true = refl
or_none false = refl

is_eq_then : (o r : Ordering) → is_eq (ordering_then o r) ≡ (is_eq o && is_eq r)
is_eq_then Less r = refl
is_eq_then Equal r = refl
is_eq_then Greater r = refl

-- ---- one moment more or less

pub pair_at : (m x n q : ℕ) → is_at (pair_cmp (m, x)) (n, q) ≡ (nat_eq m n && nat_eq x q)
pair_at m x n q = is_eq_then (nat_cmp m n) (nat_cmp x q) ∙ (λ i. unsigned_tied m n i && unsigned_tied x q i)

pub last_set : (before after : List (ℕ × ℕ)) (x m : ℕ) (listed : Bool)
    → ((p : ℕ × ℕ) → list_any (is_at (pair_cmp p)) after ≡ cond (is_at (pair_cmp (m, x)) p) listed (list_any (is_at (pair_cmp p)) before)) → SetsLast before x m listed after
last_set before after x m listed sets q n = sets (n, q) ∙ ap (λ (t : Bool). cond t listed (has_last before q n)) (pair_at m x n q ∙ and_swap (nat_eq m n) (nat_eq x q))

-- ---- those of a list of attestations

pub drop_item : {X : Type 0} (xs : List X) (i : ℕ) (x : X) → i < length xs → x ≡ get_or xs i x → drop i xs ≡ x ∷ drop (i + 1) xs
drop_item xs i x within is = drop_more xs i x within ∙ ap (λ y. y ∷ drop (i + 1) xs) (sym is)

swap_in : (h e a r : Bool) → ((h || (e && (a || false))) || (e && r)) ≡ (h || (e && (a || r)))
swap_in true e a r = refl
swap_in false true true r = refl
swap_in false true false r = refl
swap_in false false a r = refl

swap_out : (h e a r : Bool) → (not (e && r) && (not (e && (a || false)) && h)) ≡ (not (e && (a || r)) && h)
swap_out h true true true = refl
swap_out h true true false = refl
swap_out h true false true = refl
swap_out h true false false = refl
swap_out h false a r = refl

-- what is listed, and what is still to be listed
abbrev pub Adding : List (ℕ × ℕ) → ℕ → List Term → List (ℕ × ℕ) → List Term → Type 0
Adding now x rest first all = (q m : ℕ) → (has_last now q m || (nat_eq x q && lasts_among rest m)) ≡ (has_last first q m || (nat_eq x q && lasts_among all m))

abbrev pub Dropping : List (ℕ × ℕ) → ℕ → List Term → List (ℕ × ℕ) → List Term → Type 0
Dropping now x rest first all = (q m : ℕ) → (not (nat_eq x q && lasts_among rest m) && has_last now q m) ≡ (not (nat_eq x q && lasts_among all m) && has_last first q m)

pub adding_start : (now : List (ℕ × ℕ)) (x : ℕ) (all : List Term) → Adding now x all now all
adding_start now x all q m = refl

pub adding_next : (now next first : List (ℕ × ℕ)) (x : ℕ) (t : Term) (rest all : List Term) → AddsLasts now x (t ∷ []) next → Adding now x (t ∷ rest) first all → Adding next x rest first all
adding_next now next first x t rest all adds so_far q m = ap (λ (b : Bool). b || (nat_eq x q && lasts_among rest m)) (adds q m)
    ∙ swap_in (has_last now q m) (nat_eq x q) (is_last m t.until) (lasts_among rest m) ∙ so_far q m

pub adding_end : (now first : List (ℕ × ℕ)) (x : ℕ) (rest all : List Term) → rest ≡ [] → Adding now x rest first all → AddsLasts first x all now
adding_end now first x rest all none so_far q m = sym (ap (λ (ts : List Term). has_last now q m || (nat_eq x q && lasts_among ts m)) none
    ∙ ap (λ (b : Bool). has_last now q m || b) (and_none (nat_eq x q)) ∙ or_none (has_last now q m)) ∙ so_far q m

pub dropping_start : (now : List (ℕ × ℕ)) (x : ℕ) (all : List Term) → Dropping now x all now all
dropping_start now x all q m = refl

pub dropping_next : (now next first : List (ℕ × ℕ)) (x : ℕ) (t : Term) (rest all : List Term) → DropsLasts now x (t ∷ []) next → Dropping now x (t ∷ rest) first all → Dropping next x rest first all
dropping_next now next first x t rest all drops so_far q m = ap (λ (b : Bool). not (nat_eq x q && lasts_among rest m) && b) (drops q m)
    ∙ swap_out (has_last now q m) (nat_eq x q) (is_last m t.until) (lasts_among rest m) ∙ so_far q m

pub dropping_end : (now first : List (ℕ × ℕ)) (x : ℕ) (rest all : List Term) → rest ≡ [] → Dropping now x rest first all → DropsLasts first x all now
dropping_end now first x rest all none so_far q m = sym (ap (λ (ts : List Term). not (nat_eq x q && lasts_among ts m) && has_last now q m) none
    ∙ ap (λ (b : Bool). not b && has_last now q m) (and_none (nat_eq x q))) ∙ so_far q m

-- ---- those of all sources

lasts_appended : (ts us : List Term) (m : ℕ) → lasts_among (ts ++ us) m ≡ (lasts_among ts m || lasts_among us m)
lasts_appended ts us m = list_any-append (λ (t : Term). is_last m t.until) ts us

more_in : (h e a r : Bool) → ((h || (e && a)) || (e && r)) ≡ (h || (e && (a || r)))
more_in true e a r = refl
more_in false true a r = refl
more_in false false a r = refl

more_out : (h e a r : Bool) → (not (e && r) && (not (e && a) && h)) ≡ (not (e && (a || r)) && h)
more_out h true true true = refl
more_out h true true false = refl
more_out h true false r = refl
more_out h false a r = refl

-- one source's are listed
pub source_added : (now next first : List (ℕ × ℕ)) (x : ℕ) (ts rest all : List Term) → AddsLasts now x ts next → Adding now x (ts ++ rest) first all → Adding next x rest first all
source_added now next first x ts rest all adds so_far q m = ap (λ (b : Bool). b || (nat_eq x q && lasts_among rest m)) (adds q m)
    ∙ more_in (has_last now q m) (nat_eq x q) (lasts_among ts m) (lasts_among rest m) ∙ ap (λ (b : Bool). has_last now q m || (nat_eq x q && b)) (sym (lasts_appended ts rest m)) ∙ so_far q m

pub source_dropped : (now next first : List (ℕ × ℕ)) (x : ℕ) (ts rest all : List Term) → DropsLasts now x ts next → Dropping now x (ts ++ rest) first all → Dropping next x rest first all
source_dropped now next first x ts rest all drops so_far q m = ap (λ (b : Bool). not (nat_eq x q && lasts_among rest m) && b) (drops q m)
    ∙ more_out (has_last now q m) (nat_eq x q) (lasts_among ts m) (lasts_among rest m) ∙ ap (λ (b : Bool). not (nat_eq x q && b) && has_last now q m) (sym (lasts_appended ts rest m)) ∙ so_far q m

-- ---- those of the named customers

abbrev Sources : Type 0
Sources = List (List ℕ × TermMap)

-- what is listed of each customer: nothing of the named ones that aren't left
abbrev pub Forgetting : List (ℕ × ℕ) → List ℕ → List ℕ → List (ℕ × ℕ) → Type 0
Forgetting first names rest now = Filling {A = ℕ → Bool} (has_last first) (λ q. cond (has names q) (λ _. false) (has_last first q)) rest (has_last now)

pub forgetting_start : (first : List (ℕ × ℕ)) (names : List ℕ) → IsStrictlySortedBy nat_cmp names → Forgetting first names names first
forgetting_start first names rising = record {
  sorted = rising;
  done = λ q out. sym (ap (λ (b : Bool). cond b (λ (_ : ℕ). false) (has_last first q)) out);
  left = λ q there. refl;
}

at_same : (x q : ℕ) → is_at (nat_cmp x) q ≡ nat_eq x q
at_same x q = unsigned_tied x q

same_number : (x q : ℕ) → nat_eq x q ≡ true → x ≡ q
same_number x q e = exact_unsigned_eq x q e

is_head : (x : ℕ) (rest : List ℕ) → has (x ∷ rest) x ≡ true
is_head x rest = ap (λ (b : Bool). b || has rest x) (nat_eq_equiv.refl x)

-- a named customer's are gone where exactly its sources' were listed
module _ (first : List (ℕ × ℕ)) (sources : Sources) (names rest : List ℕ) (x : ℕ) (now next : List (ℕ × ℕ)) (exact : AreLasts first sources) (within : has names x ≡ true)
    (so_far : Forgetting first names (x ∷ rest) now) (drops : DropsLasts now x (all_terms sources x) next) where
  out_at : (q m : ℕ) (b : Bool) → nat_eq x q ≡ b → (not (b && lasts_among (all_terms sources x) m) && has_last now q m) ≡ cond b (cond (has names x) (λ (_ : ℕ). false) (has_last first x)) (has_last now q) m
  out_at q m true e =
      let here : has_last now q m ≡ lasts_among (all_terms sources x) m = ap (λ (k : ℕ). has_last now k m) (sym (same_number x q e)) ∙ (λ i. so_far.left x (is_head x rest) i m) ∙ exact x m in
      ap (λ (b : Bool). not (lasts_among (all_terms sources x) m) && b) here ∙ none (lasts_among (all_terms sources x) m) ∙ sym (ap (λ (b : Bool). cond b (λ (_ : ℕ). false) (has_last first x) m) within) where
        none : (a : Bool) → (not a && a) ≡ false
        none true = refl
        none false = refl
  out_at q m false e = refl

  pub forgetting_next : Forgetting first names rest next
  forgetting_next = filling_next (has_last first) (λ q. cond (has names q) (λ _. false) (has_last first q)) rest x (has_last now) (has_last next) so_far
      (λ q. λ i m. (drops q m ∙ out_at q m (nat_eq x q) refl ∙ ap (λ (b : Bool). cond b (cond (has names x) (λ (_ : ℕ). false) (has_last first x)) (has_last now q) m) (sym (at_same x q))) i)

pub forgotten : (first : List (ℕ × ℕ)) (sources : Sources) (names : List ℕ) (now : List (ℕ × ℕ)) → AreLasts first sources → Forgetting first names [] now → AreLastsBut now sources names
forgotten first sources names now exact f q m = (λ i. f.done q refl i m) ∙ by_name (has names q) where
  by_name : (b : Bool) → cond b (λ (_ : ℕ). false) (has_last first q) m ≡ cond b false (lasts_among (all_terms sources q) m)
  by_name true = refl
  by_name false = exact q m

-- what is listed of each customer: that of its sources, if it is named and isn't left
abbrev pub Listing : Sources → List (ℕ × ℕ) → List ℕ → List ℕ → List (ℕ × ℕ) → Type 0
Listing sources first names rest now = Filling {A = ℕ → Bool} (has_last first) (λ q. lasts_among (all_terms sources q)) rest (has_last now)

pub listing_start : (sources : Sources) (first : List (ℕ × ℕ)) (names : List ℕ) → IsStrictlySortedBy nat_cmp names → AreLastsBut first sources names → Listing sources first names names first
listing_start sources first names rising but = record {
  sorted = rising;
  done = λ q out. λ i m. (but q m ∙ ap (λ (b : Bool). cond b false (lasts_among (all_terms sources q) m)) out) i;
  left = λ q there. refl;
}

module _ (sources : Sources) (first : List (ℕ × ℕ)) (names rest : List ℕ) (x : ℕ) (now next : List (ℕ × ℕ)) (but : AreLastsBut first sources names) (within : has names x ≡ true)
    (so_far : Listing sources first names (x ∷ rest) now) (adds : AddsLasts now x (all_terms sources x) next) where
  in_at : (q m : ℕ) (b : Bool) → nat_eq x q ≡ b → (has_last now q m || (b && lasts_among (all_terms sources x) m)) ≡ cond b (lasts_among (all_terms sources x)) (has_last now q) m
  in_at q m true e =
      let here : has_last now q m ≡ false = ap (λ (k : ℕ). has_last now k m) (sym (same_number x q e)) ∙ (λ i. so_far.left x (is_head x rest) i m) ∙ but x m
      ∙ ap (λ (b : Bool). cond b false (lasts_among (all_terms sources x) m)) within in
      ap (λ (b : Bool). b || lasts_among (all_terms sources x) m) here
  in_at q m false e = or_none (has_last now q m)

  pub listing_next : Listing sources first names rest next
  listing_next = filling_next (has_last first) (λ q. lasts_among (all_terms sources q)) rest x (has_last now) (has_last next) so_far
      (λ q. λ i m. (adds q m ∙ in_at q m (nat_eq x q) refl ∙ ap (λ (b : Bool). cond b (lasts_among (all_terms sources x)) (has_last now q) m) (sym (at_same x q))) i)

pub listed : (sources : Sources) (first : List (ℕ × ℕ)) (names : List ℕ) (now : List (ℕ × ℕ)) → Listing sources first names [] now → AreLasts now sources
listed sources first names now l q m = λ i. l.done q refl i m

-- ---- the customers between two moments

abbrev pub gives : ℕ → List (ℕ × ℕ) → Bool
gives q pairs = list_any (λ p. nat_eq p.1 q) pairs

nat_least : (n : ℕ) → is_le (nat_cmp 0 n) ≡ true
nat_least n = elim (less_or_same 0 n (omega arith)) [
  | inl lt ↦ ap is_le (sym (nat_cmp_is 0 n Less lt))
  | inr e ↦ ap is_le (sym (nat_cmp_is 0 n Equal e))
] where
  less_or_same : (a b : ℕ) → a ≤ b → (a < b) ⊎ (a ≡ b)
  less_or_same a b le = search arith

from_here : (n : ℕ) (p : ℕ × ℕ) → n ≤ p.0 → is_le (pair_cmp (n, 0) p) ≡ true
from_here n p le = elim (less_or_same n p.0 le) [
  | inl lt ↦ ap (λ (o : Ordering). is_le (ordering_then o (nat_cmp 0 p.1))) (sym (nat_cmp_is n p.0 Less lt))
  | inr e ↦ ap (λ (o : Ordering). is_le (ordering_then o (nat_cmp 0 p.1))) (sym (nat_cmp_is n p.0 Equal e)) ∙ nat_least p.1
] where
  less_or_same : (a b : ℕ) → a ≤ b → (a < b) ⊎ (a ≡ b)
  less_or_same a b le = search arith

behind : (n : ℕ) (p : ℕ × ℕ) → p.0 < n → is_le (pair_cmp (n, 0) p) ≡ false
behind n p lt = ap (λ (o : Ordering). is_le (ordering_then o (nat_cmp 0 p.1))) (sym (nat_cmp_is n p.0 Greater lt))

abbrev pub between : ℕ → ℕ → ℕ × ℕ → Bool
between lower higher p = range_contains pair_cmp (Included (lower, 0)) (Excluded (higher, 0)) p

within_range : (lower higher : ℕ) (p : ℕ × ℕ) → lower ≤ p.0 → p.0 < higher → between lower higher p ≡ true
within_range lower higher p least most = λ i. from_here lower p least i && not (behind higher p most i)

both_true : (a b : Bool) → (a && b) ≡ true → (a ≡ true) × (b ≡ true)
both_true true b e = (refl, e)
both_true false b e = absurd (true≢false (sym e))

pub none_given : (lower higher q m : ℕ) → lower ≤ m → m < higher → (pairs : List (ℕ × ℕ)) → gives q (filter (between lower higher) pairs) ≡ false → has_last pairs q m ≡ false
none_given lower higher q m least most [] none = refl
none_given lower higher q m least most (p ∷ ps) none = by_test (is_at (pair_cmp (m, q)) p) refl (none_given lower higher q m least most ps) none where
  rest : List (ℕ × ℕ)
  rest = filter (between lower higher) ps

  later : (b : Bool) → gives q (cond b (p ∷ rest) rest) ≡ false → gives q rest ≡ false
  later true e = second (nat_eq p.1 q) e where
    second : (a : Bool) → (a || gives q rest) ≡ false → gives q rest ≡ false
    second true e = absurd (true≢false e)
    second false e = e
  later false e = e

  by_test : (b : Bool) → is_at (pair_cmp (m, q)) p ≡ b → (gives q rest ≡ false → has_last ps q m ≡ false) → gives q (cond (between lower higher p) (p ∷ rest) rest) ≡ false → (b || has_last ps q m) ≡ false
  by_test true at more none =
      let same = both_true (nat_eq m p.0) (nat_eq q p.1) (sym (pair_at m q p.0 p.1) ∙ at) in
      let here : m ≡ p.0 = exact_unsigned_eq m p.0 same.0 in
      let inside : between lower higher p ≡ true = within_range lower higher p (subst (λ (n : ℕ). lower ≤ n) here least) (subst (λ (n : ℕ). n < higher) here most) in
      let given : gives q (p ∷ rest) ≡ false = ap (λ (b : Bool). gives q (cond b (p ∷ rest) rest)) (sym inside) ∙ none in
      absurd (true≢false (sym (ap (λ (b : Bool). b || gives q rest) (nat_eq_equiv.symm p.1 q ∙ same.1)) ∙ given))
  by_test false at more none = more (later (between lower higher p) none)

below_or_not : (a b : ℕ) → (a ≤ b) ⊎ (b < a)
below_or_not a b = search arith

inside_range : (lower higher : ℕ) (p : ℕ × ℕ) → between lower higher p ≡ true → (lower ≤ p.0) × (p.0 < higher)
inside_range lower higher p inside =
    let both = both_true (is_le (pair_cmp (lower, 0) p)) (not (is_le (pair_cmp (higher, 0) p))) inside in (
      elim (below_or_not lower p.0) [
        | inl le ↦ le
        | inr lt ↦ absurd (true≢false (sym both.0 ∙ behind lower p lt))
      ],
      elim (below_or_not higher p.0) [
        | inl le ↦ absurd (true≢false (sym both.1 ∙ ap not (from_here higher p le)))
        | inr lt ↦ lt
      ],
    )

listed_too : (a b : Bool) → b ≡ true → (a || b) ≡ true
listed_too true b e = refl
listed_too false b e = e

-- who is given has a last moment there
pub one_given : (lower higher q : ℕ) (pairs : List (ℕ × ℕ)) → gives q (filter (between lower higher) pairs) ≡ true → HasOneBetween pairs lower higher q
one_given lower higher q [] there = absurd (true≢false (sym there))
one_given lower higher q (p ∷ ps) there = by_test (between lower higher p) refl (one_given lower higher q ps) there where
  rest : List (ℕ × ℕ)
  rest = filter (between lower higher) ps

  later : HasOneBetween ps lower higher q → HasOneBetween (p ∷ ps) lower higher q
  later one = record { moment = one.moment; least = one.least; most = one.most; listed = listed_too (is_at (pair_cmp (one.moment, q)) p) (has_last ps q one.moment) one.listed }

  here : between lower higher p ≡ true → nat_eq p.1 q ≡ true → HasOneBetween (p ∷ ps) lower higher q
  here inside same = record {
    moment = p.0;
    least = (inside_range lower higher p inside).0;
    most = (inside_range lower higher p inside).1;
    listed = ap (λ (b : Bool). b || has_last ps q p.0) (pair_at p.0 q p.0 p.1 ∙ (λ i. nat_eq_equiv.refl p.0 i && (nat_eq_equiv.symm q p.1 ∙ same) i));
  }

  first_or_later : (a : Bool) → nat_eq p.1 q ≡ a → between lower higher p ≡ true → (gives q rest ≡ true → HasOneBetween ps lower higher q) → (a || gives q rest) ≡ true → HasOneBetween (p ∷ ps) lower higher q
  first_or_later true same inside more there = here inside same
  first_or_later false other inside more there = later (more there)

  by_test : (b : Bool) → between lower higher p ≡ b → (gives q rest ≡ true → HasOneBetween ps lower higher q) → gives q (cond b (p ∷ rest) rest) ≡ true → HasOneBetween (p ∷ ps) lower higher q
  by_test true inside more there = first_or_later (nat_eq p.1 q) refl inside more there
  by_test false outside more there = later (more there)

or_both : (a b c : Bool) → ((a || b) || c) ≡ (a || (b || c))
or_both true b c = refl
or_both false b c = refl

pub given_next : (names now : List ℕ) (p : ℕ × ℕ) (left rest : List (ℕ × ℕ)) (q : ℕ) → has now q ≡ (has names q || nat_eq p.1 q) → left ≡ p ∷ rest → (has now q || gives q rest) ≡ (has names q || gives q left)
given_next names now p left rest q more is = ap (λ (b : Bool). b || gives q rest) more ∙ or_both (has names q) (nat_eq p.1 q) (gives q rest) ∙ ap (λ (ps : List (ℕ × ℕ)). has names q || gives q ps) (sym is)

pub none_named : (names : List ℕ) (q : ℕ) (left whole : List (ℕ × ℕ)) → left ≡ [] → (has names q || gives q left) ≡ gives q whole → has names q ≡ false → gives q whole ≡ false
none_named names q left whole none is out = sym is ∙ ap (λ (ps : List (ℕ × ℕ)). has names q || gives q ps) none ∙ or_none (has names q) ∙ out

-- ---- a customer with no last moment between two moments is the same at both

less_is : (a b : ℕ) → a < b → nat_lt a b ≡ true
less_is a b lt = grind (arith, nat_tests)

less_not : (a b : ℕ) → b ≤ a → nat_lt a b ≡ false
less_not a b le = grind (arith, nat_tests)

-- no last moment of the end lies between
abbrev Apart : ℕ → ℕ → Option ℕ → Type 0
Apart lower higher until = (m : ℕ) → lower ≤ m → m < higher → is_last m until ≡ false

one_before : (lower end : ℕ) → lower < end → nat_eq end ((end - 1) + 1) ≡ true
one_before lower end lt = grind (arith, nat_tests)

alive_same : (lower higher : ℕ) (until : Option ℕ) → lower ≤ higher → Apart lower higher until → is_alive higher until ≡ is_alive lower until
alive_same lower higher None le apart = refl
alive_same lower higher (Some end) le apart = elim (below_or_not end lower) [
  | inl old ↦ less_not higher end (omega (arith, old, le)) ∙ sym (less_not lower end old)
  | inr young ↦ elim (below_or_not end higher) [
    | inr later ↦ less_is higher end later ∙ sym (less_is lower end young)
    | inl crossed ↦ absurd (true≢false (sym (one_before lower end young) ∙ apart (end - 1) (omega (arith, young)) (omega (arith, young, crossed))))
  ]
]

first_no : (a b : Bool) → (a || b) ≡ false → a ≡ false
first_no true b e = absurd (true≢false e)
first_no false b e = refl

second_no : (a b : Bool) → (a || b) ≡ false → b ≡ false
second_no true b e = absurd (true≢false e)
second_no false b e = e

abbrev AllApart : ℕ → ℕ → List Term → Type 0
AllApart lower higher terms = (m : ℕ) → lower ≤ m → m < higher → lasts_among terms m ≡ false

first_apart : (lower higher : ℕ) (t : Term) (ts : List Term) → AllApart lower higher (t ∷ ts) → Apart lower higher t.until
first_apart lower higher t ts apart m least most = first_no (is_last m t.until) (lasts_among ts m) (apart m least most)

rest_apart : (lower higher : ℕ) (t : Term) (ts : List Term) → AllApart lower higher (t ∷ ts) → AllApart lower higher ts
rest_apart lower higher t ts apart m least most = second_no (is_last m t.until) (lasts_among ts m) (apart m least most)

same_alive : (lower higher : ℕ) → lower ≤ higher → (ts : List Term) → AllApart lower higher ts → filter (λ (t : Term). is_alive higher t.until) ts ≡ filter (λ (t : Term). is_alive lower t.until) ts
same_alive lower higher le [] apart = refl
same_alive lower higher le (t ∷ ts) apart = λ i. cond (alive_same lower higher t.until le (first_apart lower higher t ts apart) i)
    (t ∷ same_alive lower higher le ts (rest_apart lower higher t ts apart) i) (same_alive lower higher le ts (rest_apart lower higher t ts apart) i)

same_one : (lower higher : ℕ) → lower ≤ higher → (ts : List Term) → AllApart lower higher ts → row_of_one higher ts ≡ row_of_one lower ts
same_one lower higher le [] apart = refl
same_one lower higher le (t ∷ []) apart = ap (λ (b : Bool). cond b (Some t.providers) None) (alive_same lower higher t.until le (first_apart lower higher t [] apart))
same_one lower higher le (t ∷ u ∷ ts) apart = refl

front_no : (ts us : List Term) (lower higher : ℕ) → AllApart lower higher (ts ++ us) → AllApart lower higher ts
front_no ts us lower higher apart m least most = first_no (lasts_among ts m) (lasts_among us m) (sym (lasts_appended ts us m) ∙ apart m least most)

-- what is attested is what is alive of all attestations
filter_appended : (p : Term → Bool) (ts us : List Term) → filter p (ts ++ us) ≡ filter p ts ++ filter p us
filter_appended p [] us = refl
filter_appended p (t ∷ ts) us = elim (p t) as (λ b. cond b (t ∷ filter p (ts ++ us)) (filter p (ts ++ us)) ≡ cond b (t ∷ filter p ts) (filter p ts) ++ filter p us) [
  | true ↦ ap (λ (l : List Term). t ∷ l) (filter_appended p ts us)
  | false ↦ filter_appended p ts us
]

map_appended : (ts us : List Term) → map {B = List ℕ} (λ (t : Term). t.providers) (ts ++ us) ≡ map {B = List ℕ} (λ (t : Term). t.providers) ts ++ map {B = List ℕ} (λ (t : Term). t.providers) us
map_appended [] us = refl
map_appended (t ∷ ts) us = ap (λ (l : List (List ℕ)). t.providers ∷ l) (map_appended ts us)

pub alive_appended : (moment : ℕ) (ts us : List Term) → alive_among moment (ts ++ us) ≡ alive_among moment ts ++ alive_among moment us
alive_appended moment ts us = ap (map {B = List ℕ} (λ (t : Term). t.providers)) (filter_appended (λ (t : Term). is_alive moment t.until) ts us)
    ∙ map_appended (filter (λ (t : Term). is_alive moment t.until) ts) (filter (λ (t : Term). is_alive moment t.until) us)

pub attested_is : (moment : ℕ) (sources : Sources) (x : ℕ) → attested moment sources x ≡ alive_among moment (all_terms sources x)
attested_is moment [] x = refl
attested_is moment (s ∷ ss) x = ap (λ (rows : List (List ℕ)). alive_of moment (finite.get s.1 x) ++ rows) (attested_is moment ss x) ∙ sym (alive_appended moment (members (terms_or_none (finite.get s.1 x))) (all_terms ss x))

module _ (lasts : List (ℕ × ℕ)) (sources : Sources) (exact : AreLasts lasts sources) (lower higher x : ℕ) (le : lower ≤ higher) (none : HasNoneBetween lasts lower higher x) where
  apart : AllApart lower higher (all_terms sources x)
  apart m least most = sym (exact x m) ∙ none m least most

  pub attested_at_both : attested higher sources x ≡ attested lower sources x
  attested_at_both = attested_is higher sources x ∙ ap (map {B = List ℕ} (λ (t : Term). t.providers)) (same_alive lower higher le (all_terms sources x) apart) ∙ sym (attested_is lower sources x)

  first_of : (ss : Sources) → AllApart lower higher (all_terms ss x) → first_row higher ss x ≡ first_row lower ss x
  first_of [] none = refl
  first_of (s ∷ ss) none = same_one lower higher le (members (terms_or_none (finite.get s.1 x))) (front_no (members (terms_or_none (finite.get s.1 x))) (all_terms ss x) lower higher none)

  pub first_at_both : first_row higher sources x ≡ first_row lower sources x
  first_at_both = first_of sources apart

-- the two moments in either order
pub either_moment : {A : Type 0} (f : ℕ → A) (old new : ℕ) → (min old new ≤ max old new → f (max old new) ≡ f (min old new)) → f new ≡ f old
either_moment f old new same = elim (below_or_not old new) [
  | inl le ↦ let a : max old new ≡ new = omega (arith, le) in let b : min old new ≡ old = omega (arith, le) in sym (ap f a) ∙ same (omega (arith, le)) ∙ ap f b
  | inr lt ↦ let a : max old new ≡ old = omega (arith, lt) in let b : min old new ≡ new = omega (arith, lt) in sym (ap f b) ∙ sym (same (omega (arith, lt))) ∙ ap f a
]

pub has_head : (x : ℕ) (rest : List ℕ) → has (x ∷ rest) x ≡ true
has_head x rest = is_head x rest

pub has_tail : (x : ℕ) (rest : List ℕ) (q : ℕ) → has rest q ≡ true → has (x ∷ rest) q ≡ true
has_tail x rest q there = ap (λ (b : Bool). nat_eq x q || b) there ∙ or_true (nat_eq x q) where
  or_true : (b : Bool) → (b || true) ≡ true
  or_true true = refl
  or_true false = refl

pub none_added : (lasts : List (ℕ × ℕ)) (x : ℕ) → AddsLasts lasts x [] lasts
none_added lasts x q m = sym (ap (λ (b : Bool). has_last lasts q m || b) (and_none (nat_eq x q)) ∙ or_none (has_last lasts q m))

pub none_dropped : (lasts : List (ℕ × ℕ)) (x : ℕ) → DropsLasts lasts x [] lasts
none_dropped lasts x q m = sym (ap (λ (b : Bool). not b && has_last lasts q m) (and_none (nat_eq x q)))

-- ---- other sources

-- where the last moments of all others are the same
pub others_listed : (lasts : List (ℕ × ℕ)) (old new : Sources) (names : List ℕ) → ((x : ℕ) → has names x ≡ false → (m : ℕ) → lasts_among (all_terms new x) m ≡ lasts_among (all_terms old x) m)
    → AreLastsBut lasts old names → AreLastsBut lasts new names
others_listed lasts old new names same but x m = but x m ∙ by_name (has names x) refl where
  by_name : (b : Bool) → has names x ≡ b → cond b false (lasts_among (all_terms old x) m) ≡ cond b false (lasts_among (all_terms new x) m)
  by_name true e = refl
  by_name false e = sym (same x e m)

lasts_at : (m x : ℕ) (b : Bool) (s : List ℕ × TermMap) (terms : TermMap) (ss rest : Sources) → (b ≡ true → lasts_among (list_of s.1 x) m ≡ lasts_among (list_of terms x) m) → (b ≡ false → lasts_among (all_terms rest x) m ≡ lasts_among (all_terms ss x) m)
    → lasts_among (all_terms (cond b ((s.0, terms) ∷ ss) (s ∷ rest)) x) m ≡ lasts_among (list_of s.1 x ++ all_terms ss x) m
lasts_at m x true s terms ss rest same more = lasts_appended (list_of terms x) (all_terms ss x) m ∙ ap (λ (b : Bool). b || lasts_among (all_terms ss x) m) (sym (same refl)) ∙ sym (lasts_appended (list_of s.1 x) (all_terms ss x) m)
lasts_at m x false s terms ss rest same more = lasts_appended (list_of s.1 x) (all_terms rest x) m ∙ ap (λ (b : Bool). lasts_among (list_of s.1 x) m || b) (more refl) ∙ sym (lasts_appended (list_of s.1 x) (all_terms ss x) m)

of_first : (m x : ℕ) (b : Bool) (held rest terms : TermMap) → lasts_among (list_of (cond b held rest) x) m ≡ lasts_among (list_of terms x) m → b ≡ true → lasts_among (list_of held x) m ≡ lasts_among (list_of terms x) m
of_first m x true held rest terms same e = same
of_first m x false held rest terms same e = absurd (true≢false (sym e))

of_rest : (m x : ℕ) (b : Bool) (held rest terms : TermMap) → lasts_among (list_of (cond b held rest) x) m ≡ lasts_among (list_of terms x) m → b ≡ false → lasts_among (list_of rest x) m ≡ lasts_among (list_of terms x) m
of_rest m x true held rest terms same e = absurd (true≢false e)
of_rest m x false held rest terms same e = same

-- a source has attestations with the same last moments
pub same_lasts : (m x : ℕ) (sources : Sources) (name : List ℕ) (terms : TermMap) → lasts_among (list_of (terms_in sources name) x) m ≡ lasts_among (list_of terms x) m
    → lasts_among (all_terms (with_source sources name terms) x) m ≡ lasts_among (all_terms sources x) m
same_lasts m x [] name terms same = lasts_appended (list_of terms x) [] m ∙ or_none (lasts_among (list_of terms x) m) ∙ sym same ∙ ap (λ (ts : List Term). lasts_among ts m) (none_of_empty x)
same_lasts m x (s ∷ ss) name terms same = let b : Bool = pointwise nat_eq name s.0 in
    lasts_at m x b s terms ss (with_source ss name terms) (of_first m x b s.1 (terms_in ss name) terms same) (λ e. same_lasts m x ss name terms (of_rest m x b s.1 (terms_in ss name) terms same e))

-- at the start no moment is listed
pub none_listed : AreLasts [] []
none_listed x m = refl
