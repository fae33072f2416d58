-- The row that is read off a tally is the current one.
use Rattle.std.proofs.Common.{◌≡◌, ℕ, suc, nat_eq, ◌+◌, ◌<◌, Bool, true, false, cond, not, ◌||◌, ◌&&◌, List, [], ◌∷◌, length, filter, Some, None, Less, refl, sym, ap, subst, ◌∙◌, arith, true≢false}
use Rattle.std.specs.Prelude.{is_some}
use Rattle.std.specs.declared.option.Option.{Option}
use Rattle.std.specs.List.{AllByRecursion}
use Rattle.std.specs.List.Sorted.{IsStrictlySortedBy}
use Rattle.std.specs.Ordering.{nat_cmp}
use Rattle.std.specs.FinMap as map
use Rattle.std.proofs.lemmas.Bool.Decides.{nat_tests}
use Rattle.std.proofs.lemmas.Bool.{false_from_ne_true}
use Rattle.std.proofs.lemmas.Map.Keys.{sorted_head, sorted_tail}
use Rattle.std.proofs.lemmas.Map.Views.{exact_unsigned_eq}
use Rattle.path_model.specs.Authority.{has}
use Rattle.attestations.specs.CurrentTable.{Parts}
use Rattle.attestations.specs.ComputedTable.{onto, attested, unfiltered, joined, union_of, row_made, table_of}
use Rattle.path_model.proofs.MemberLemmas.{has-append, has-nonzero}
use Rattle.vap_table.specs.declared.tally.Given.{Given}
use Rattle.vap_table.specs.declared.tally.Tally.{Tally}
use Rattle.vap_table.specs.Counting.{holds, asserted_with}
use Rattle.vap_table.specs.Shown.{some_go, goes_in, shown, row_shown}
use Rattle.vap_table.specs.Stepping.{one, numbers_of}
use Rattle.vap_table.specs.Tally.{holding, counted, IsTallyOf, IsTallyOfRows}
use Rattle.vap_table.proofs.CountingLemmas.{rows_counted, numbers_counted, ordered}
use Rattle.vap_table.proofs.MemberLemmas.{set_of_members, set_is_ascending}
use Rattle.vap_table.proofs.SteppingLemmas.{not_counted, above_all, not_below_itself}

and_false : (b : Bool) → (b && false) ≡ false
and_false true = refl
and_false false = refl

and_swapped : (b c : Bool) → (b && c) ≡ (c && b)
and_swapped true true = refl
and_swapped true false = refl
and_swapped false true = refl
and_swapped false false = refl

or_false : (b : Bool) → (b || false) ≡ b
or_false true = refl
or_false false = refl

none_go : (f : Bool) → some_go f (0, 0) ≡ false
none_go true = refl
none_go false = refl

-- ---- the providers that go in

pub has_shown : (f : Bool) (gs : List Given) (y : ℕ) → IsStrictlySortedBy nat_cmp (numbers_of gs) → has (shown f gs) y ≡ (not (nat_eq y 0) && some_go f (counted gs y))
has_shown f [] y sorted = sym (ap (λ (b : Bool). not (nat_eq y 0) && b) (none_go f) ∙ and_false (not (nat_eq y 0)))
has_shown f (g ∷ gs) y sorted = by (has_shown f gs y (sorted_tail nat_cmp g.provider (numbers_of gs) sorted)) (nat_eq g.provider y) refl (goes_in f g) refl where
  goes : nat_eq g.provider y ≡ true → goes_in f g ≡ (not (nat_eq y 0) && some_go f (g.sources, g.assertions))
  goes s = ap (λ (k : ℕ). not (nat_eq k 0) && some_go f (g.sources, g.assertions)) (exact_unsigned_eq g.provider y s)

  not_later : nat_eq g.provider y ≡ true → has (numbers_of gs) y ≡ false
  not_later s = false_from_ne_true (has (numbers_of gs) y)
      (λ there. not_below_itself y (subst (λ (k : ℕ). k < y) (exact_unsigned_eq g.provider y s) (above_all g.provider (numbers_of gs) y (sorted_head nat_cmp g.provider (numbers_of gs) sorted) there)))

  by : has (shown f gs) y ≡ (not (nat_eq y 0) && some_go f (counted gs y)) → (same : Bool) → nat_eq g.provider y ≡ same → (kept : Bool) → goes_in f g ≡ kept
      → has (cond kept (g.provider ∷ shown f gs) (shown f gs)) y ≡ (not (nat_eq y 0) && some_go f (cond same (g.sources, g.assertions) (counted gs y)))
  by more true s true k = ap (λ (b : Bool). b || has (shown f gs) y) s ∙ sym k ∙ goes s
  by more true s false k = more ∙ ap (λ (p : ℕ × ℕ). not (nat_eq y 0) && some_go f p) (not_counted gs y (not_later s))
      ∙ ap (λ (b : Bool). not (nat_eq y 0) && b) (none_go f) ∙ and_false (not (nat_eq y 0)) ∙ sym k ∙ goes s
  by more false s true k = ap (λ (b : Bool). b || has (shown f gs) y) s ∙ more
  by more false s false k = more

shown_above : (f : Bool) (k : ℕ) (gs : List Given) → AllByRecursion (λ y. nat_cmp k y ≡ Less) (numbers_of gs) → AllByRecursion (λ y. nat_cmp k y ≡ Less) (shown f gs)
shown_above f k [] all = tt
shown_above f k (g ∷ gs) all = by (shown_above f k gs all.1) (goes_in f g) where
  by : AllByRecursion (λ y. nat_cmp k y ≡ Less) (shown f gs) → (b : Bool) → AllByRecursion (λ y. nat_cmp k y ≡ Less) (cond b (g.provider ∷ shown f gs) (shown f gs))
  by more true = (all.0, more)
  by more false = more

pub shown_rise : (f : Bool) (gs : List Given) → IsStrictlySortedBy nat_cmp (numbers_of gs) → IsStrictlySortedBy nat_cmp (shown f gs)
unfolding IsStrictlySortedBy
shown_rise f [] sorted = tt
shown_rise f (g ∷ gs) sorted = by (shown_rise f gs sorted.1) (goes_in f g) where
  by : IsStrictlySortedBy nat_cmp (shown f gs) → (b : Bool) → IsStrictlySortedBy nat_cmp (cond b (g.provider ∷ shown f gs) (shown f gs))
  by more true = (shown_above f g.provider gs sorted.0, more)
  by more false = more

-- ---- all rows that go in

some_more : (n : ℕ) → true ≡ not (nat_eq (suc n) 0)
some_more n = grind (arith, nat_tests)

has_joined : (rows : List (List ℕ)) (y : ℕ) → has (joined rows) y ≡ not (nat_eq (holding y rows) 0)
has_joined [] y = refl
has_joined (r ∷ rs) y = has-append r (joined rs) y ∙ by (has r y) (filter (λ row. has row y) rs) (has_joined rs y) where
  by : (b : Bool) (held : List (List ℕ)) → has (joined rs) y ≡ not (nat_eq (length held) 0) → (b || has (joined rs) y) ≡ not (nat_eq (length (cond b (r ∷ held) held)) 0)
  by true held more = some_more (length held)
  by false held more = more

onto_length : (row : Option (List ℕ)) (rows : List (List ℕ)) → length (onto row rows) ≡ one (is_some row) + length rows
onto_length None rows = let e : length rows ≡ 0 + length rows = omega arith in e
onto_length (Some row) rows = omega arith

onto_holding : (row : Option (List ℕ)) (rows : List (List ℕ)) (y : ℕ) → holding y (onto row rows) ≡ one (holds row y) + holding y rows
onto_holding None rows y = let e : holding y rows ≡ 0 + holding y rows = omega arith in e
onto_holding (Some row) rows y = by (has row y) (filter (λ r. has r y) rows) where
  by : (b : Bool) (held : List (List ℕ)) → length (cond b (row ∷ held) held) ≡ one b + length held
  by true held = omega arith
  by false held = omega arith

unfiltered_length : (b c : Bool) (rows : List (List ℕ)) → length (unfiltered b c rows) ≡ cond (b || c) 0 (length rows)
unfiltered_length true c rows = refl
unfiltered_length false true rows = refl
unfiltered_length false false rows = refl

unfiltered_holding : (b c : Bool) (rows : List (List ℕ)) (y : ℕ) → holding y (unfiltered b c rows) ≡ cond (b || c) 0 (holding y rows)
unfiltered_holding true c rows y = refl
unfiltered_holding false true rows y = refl
unfiltered_holding false false rows y = refl

-- of so many rows by a SLURM file, by hand and of sources some go in
go_of : (f : Bool) (p q n : ℕ) → some_go f (n, p + (q + 0)) ≡ not (nat_eq (p + (q + cond f 0 n)) 0)
go_of true p q n = or_false (not (nat_eq (p + (q + 0)) 0))
go_of false p q n = grind (arith, nat_tests)

pub number_that_go : (by_slurm by_hand : Option (List ℕ)) (b c : Bool) (rows : List (List ℕ))
    → some_go (b || c) (length rows, length (asserted_with by_slurm by_hand)) ≡ not (nat_eq (length (onto by_slurm (onto by_hand (unfiltered b c rows)))) 0)
number_that_go by_slurm by_hand b c rows =
    ap (λ (k : ℕ). some_go (b || c) (length rows, k)) (onto_length by_slurm (onto by_hand []) ∙ ap (λ (k : ℕ). one (is_some by_slurm) + k) (onto_length by_hand []))
    ∙ go_of (b || c) (one (is_some by_slurm)) (one (is_some by_hand)) (length rows)
    ∙ sym (ap (λ (k : ℕ). not (nat_eq k 0)) (onto_length by_slurm (onto by_hand (unfiltered b c rows))
    ∙ ap (λ (k : ℕ). one (is_some by_slurm) + k) (onto_length by_hand (unfiltered b c rows) ∙ ap (λ (k : ℕ). one (is_some by_hand) + k) (unfiltered_length b c rows))))

pub holders_that_go : (by_slurm by_hand : Option (List ℕ)) (b c : Bool) (rows : List (List ℕ)) (y : ℕ)
    → some_go (b || c) (holding y rows, holding y (asserted_with by_slurm by_hand)) ≡ not (nat_eq (holding y (onto by_slurm (onto by_hand (unfiltered b c rows)))) 0)
holders_that_go by_slurm by_hand b c rows y =
    ap (λ (k : ℕ). some_go (b || c) (holding y rows, k)) (onto_holding by_slurm (onto by_hand []) y ∙ ap (λ (k : ℕ). one (holds by_slurm y) + k) (onto_holding by_hand [] y))
    ∙ go_of (b || c) (one (holds by_slurm y)) (one (holds by_hand y)) (holding y rows)
    ∙ sym (ap (λ (k : ℕ). not (nat_eq k 0)) (onto_holding by_slurm (onto by_hand (unfiltered b c rows)) y
    ∙ ap (λ (k : ℕ). one (holds by_slurm y) + k) (onto_holding by_hand (unfiltered b c rows) y ∙ ap (λ (k : ℕ). one (holds by_hand y) + k) (unfiltered_holding b c rows y))))

module _ (f : Bool) (sourced asserted : List (List ℕ)) where
  shown_is : (tally : Tally) (r : List ℕ) (rs : List (List ℕ)) → IsTallyOfRows sourced asserted (Some tally)
      → ((y : ℕ) → some_go f (holding y sourced, holding y asserted) ≡ not (nat_eq (holding y (r ∷ rs)) 0)) → shown f tally.given ≡ union_of (r ∷ rs)
  shown_is tally r rs is held =
      let rising : IsStrictlySortedBy nat_cmp (numbers_of tally.given) = (ordered sourced asserted (Some tally) is).rising in
      set_is_ascending (filter (λ y. not (nat_eq y 0)) (joined (r ∷ rs))) (shown f tally.given) (set_of_members (filter (λ y. not (nat_eq y 0)) (joined (r ∷ rs))) (shown f tally.given) (shown_rise f tally.given rising)
      (λ y. has_shown f tally.given y rising
      ∙ ap (λ (p : ℕ × ℕ). not (nat_eq y 0) && some_go f p) (numbers_counted sourced asserted (Some tally) y is)
      ∙ ap (λ (b : Bool). not (nat_eq y 0) && b) (held y ∙ sym (has_joined (r ∷ rs) y))
      ∙ and_swapped (not (nat_eq y 0)) (has (joined (r ∷ rs)) y)
      ∙ sym (has-nonzero (joined (r ∷ rs)) y)))

  pub row_is_made : (tally : Option Tally) (all : List (List ℕ)) → IsTallyOfRows sourced asserted tally → some_go f (length sourced, length asserted) ≡ not (nat_eq (length all) 0)
      → ((y : ℕ) → some_go f (holding y sourced, holding y asserted) ≡ not (nat_eq (holding y all) 0)) → row_shown f tally ≡ row_made all
  row_is_made None [] is number held = refl
  row_is_made None (r ∷ rs) is number held =
      absurd (true≢false (some_more (length rs) ∙ sym number ∙ ap (some_go f) (sym (rows_counted sourced asserted None is)) ∙ none_go f))
  row_is_made (Some tally) [] is number held =
      ap (λ (b : Bool). cond b (Some (shown f tally.given)) None) (ap (some_go f) (rows_counted sourced asserted (Some tally) is) ∙ number)
  row_is_made (Some tally) (r ∷ rs) is number held =
      ap (λ (b : Bool). cond b (Some (shown f tally.given)) None) (ap (some_go f) (rows_counted sourced asserted (Some tally) is) ∙ number ∙ sym (some_more (length rs)))
      ∙ ap Some (shown_is tally r rs is held)

pub row_is_current : (parts : Parts) (x : ℕ) (tally : Option Tally) → IsTallyOf parts x tally → row_shown (has parts.slurm_filters x || has parts.filters x) tally ≡ table_of parts x
row_is_current parts x tally is =
    let by_slurm = map.get parts.slurm_assertions x in
    let by_hand = map.get parts.assertions x in
    let b = has parts.slurm_filters x in
    let c = has parts.filters x in
    let rows = attested parts.moment parts.sources x in
    row_is_made (b || c) rows (asserted_with by_slurm by_hand) tally (onto by_slurm (onto by_hand (unfiltered b c rows))) is (number_that_go by_slurm by_hand b c rows) (holders_that_go by_slurm by_hand b c rows)
