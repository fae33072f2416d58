-- What the iterator over the current rows begins with.
use Rattle.std.proofs.Common.{◌≡◌, ℕ, nat_eq, Bool, true, false, cond, ◌||◌, List, [], ◌∷◌, Some, None, is_some, inl, inr, refl, sym, ap, subst, ◌∙◌}
use Rattle.std.specs.declared.option.Option.{Option}
use Rattle.std.specs.declared.cmp.Ordering.TheVariants.{Less}
use Rattle.std.specs.Ordering.{nat_cmp}
use Rattle.std.specs.BTreeMap.{is_at}
use Rattle.std.specs.Cmp.{nat_eq_equiv, unsigned_tied}
use Rattle.std.specs.FinMap as map
use Rattle.std.specs.Map.{keys_of, lookup}
use Rattle.std.specs.List.{AllByRecursion}
use Rattle.std.specs.List.Sorted.{IsStrictlySortedBy}
use Rattle.std.proofs.lemmas.Bool.Decides.{eqb_tells}
use Rattle.path_model.specs.Authority.{has}
use Rattle.attestations.specs.Terms.{TermMap}
use Rattle.attestations.specs.CurrentTable.{Parts, IsCurrentRow, IsCurrentTable}
use Rattle.attestations.specs.ComputedTable.{table_of}
use Rattle.path_model.proofs.MapLemmas.{get_rows}
use Rattle.attestations.proofs.PartsLemmas.{table_is_current}
use Rattle.vap_table.specs.declared.current.Current.{Current}
use Rattle.vap_table.specs.Current.{IsKept, kept_row}
use Rattle.vap_table.specs.Entries.{onto_row, rows_of, with_rows}

IsBelow : ℕ → List ℕ → Type 0
IsBelow x ys = AllByRecursion (λ y. nat_cmp x y ≡ Less) ys

below_onto : (x y : ℕ) (row : Option (List ℕ)) (rest : List (ℕ × List ℕ)) → nat_cmp x y ≡ Less → IsBelow x (keys_of rest) → IsBelow x (keys_of (onto_row y row rest))
unfolding IsBelow
below_onto x y None rest first more = more
below_onto x y (Some row) rest first more = (first, more)

below_rows : (current : Current) (moment : ℕ) (sources : List (List ℕ × TermMap)) (x : ℕ) (ys : List ℕ) → IsBelow x ys → IsBelow x (keys_of (with_rows current moment sources ys))
unfolding IsBelow
below_rows current moment sources x [] below = tt
below_rows current moment sources x (y ∷ ys) below = below_onto x y (kept_row current moment sources y) (with_rows current moment sources ys) below.0 (below_rows current moment sources x ys below.1)

onto_rises : (x : ℕ) (row : Option (List ℕ)) (rest : List (ℕ × List ℕ)) → IsBelow x (keys_of rest) → IsStrictlySortedBy nat_cmp (keys_of rest) → IsStrictlySortedBy nat_cmp (keys_of (onto_row x row rest))
unfolding IsBelow IsStrictlySortedBy
onto_rises x None rest below rising = rising
onto_rises x (Some row) rest below rising = (below, rising)

pub rows_rise : (current : Current) (moment : ℕ) (sources : List (List ℕ × TermMap)) (xs : List ℕ) → IsStrictlySortedBy nat_cmp xs → IsStrictlySortedBy nat_cmp (keys_of (with_rows current moment sources xs))
unfolding IsBelow IsStrictlySortedBy
rows_rise current moment sources [] rising = tt
rows_rise current moment sources (x ∷ xs) rising = onto_rises x (kept_row current moment sources x) (with_rows current moment sources xs) (below_rows current moment sources x xs rising.0) (rows_rise current moment sources xs rising.1)

test_same : (q x : ℕ) → is_at (nat_cmp q) x ≡ nat_eq x q
test_same q x = unsigned_tied q x ∙ nat_eq_equiv.symm q x

none_chosen : (b : Bool) (other : Option (List ℕ)) → other ≡ None → cond b other None ≡ other
none_chosen true other e = refl
none_chosen false other e = sym e

-- what is found at a customer, with one customer more
found_step : (x q : ℕ) (row other : Option (List ℕ)) (rest : List (ℕ × List ℕ)) (b : Bool) → (x ≡ q → row ≡ other) → lookup (is_at (nat_cmp q)) rest ≡ cond b other None
    → lookup (is_at (nat_cmp q)) (onto_row x row rest) ≡ cond (nat_eq x q || b) other None
found_step x q None other rest b same e = elim (eqb_tells x q) [
  | inl is ↦ rw is.0 (e ∙ none_chosen b other (sym (same is.1)))
  | inr not ↦ rw not.0 e
]
found_step x q (Some row) other rest b same e = ap (λ (t : Bool). cond t (Some row) (lookup (is_at (nat_cmp q)) rest)) (test_same q x) ∙ elim (eqb_tells x q) [
  | inl is ↦ rw is.0 (same is.1)
  | inr not ↦ rw not.0 e
]

found_rows : (current : Current) (moment : ℕ) (sources : List (List ℕ × TermMap)) (xs : List ℕ) (q : ℕ) → lookup (is_at (nat_cmp q)) (with_rows current moment sources xs) ≡ cond (has xs q) (kept_row current moment sources q) None
found_rows current moment sources [] q = refl
found_rows current moment sources (x ∷ xs) q = found_step x q (kept_row current moment sources x) (kept_row current moment sources q) (with_rows current moment sources xs) (has xs q) (λ is. ap (λ (y : ℕ). kept_row current moment sources y) is) (found_rows current moment sources xs q)

chosen : (b : Bool) (kept row : Option (List ℕ)) → kept ≡ row → b ≡ is_some row → cond b kept None ≡ row
chosen true kept row e f = e
chosen false kept None e f = refl
chosen false kept (Some row) e f = let never : ⊥ = cc in absurd never

pub entries_current : (current : Current) (parts : Parts) → IsKept current parts → IsCurrentTable parts (λ x. map.get (rows_of (with_rows current parts.moment parts.sources current.customers)) x)
entries_current current parts kept x =
    subst (λ (o : Option (List ℕ)). IsCurrentRow parts x o)
    (sym (get_rows (with_rows current parts.moment parts.sources current.customers) x ∙ found_rows current parts.moment parts.sources current.customers x
    ∙ chosen (has current.customers x) (kept_row current parts.moment parts.sources x) (table_of parts x) (kept x).row (kept x).listed))
    (table_is_current parts x)
