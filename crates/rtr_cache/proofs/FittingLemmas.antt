-- The rows of a table that were looked at fit PDUs.
use Rattle.std.proofs.Common.{◌≡◌, ◌≤◌, ◌<◌, ℕ, List, [], ◌∷◌, Some, None, inl, inr, length, refl, sym, ap, subst, ◌∙◌, arith}
use Rattle.std.specs.declared.option.Option.{Option}
use Rattle.std.specs.Ordering.{nat_cmp}
use Rattle.std.specs.BTreeMap.{is_at}
use Rattle.std.specs.Map.{keys_of, lookup}
use Rattle.std.specs.List.Sorted.{IsStrictlySortedBy}
use Rattle.std.proofs.lemmas.Bool.Decides.{eqb_tells}
use Rattle.path_model.specs.Authority.{Table}
use Rattle.attestations.specs.CurrentTable.{Parts, IsCurrentRow}
use Rattle.attestations.specs.ComputedTable.{table_of}
use Rattle.attestations.proofs.PartsLemmas.{one_row, table_is_current}
use Rattle.rtr_cache.specs.Cache.{FitsPdus}
use Rattle.rtr_cache.proofs.RowLemmas.{behind, key_itself, other_key}
use Rattle.rtr_cache.proofs.VisitLemmas.{missing}

-- the rows that are left are the table's, and all others of it fit
pub record Fitting (table : Table) (left : List (ℕ × List ℕ)) : Type 0 where
  pub rising : IsStrictlySortedBy nat_cmp (keys_of left)
  pub sub : (q : ℕ) (row : List ℕ) → lookup (is_at (nat_cmp q)) left ≡ Some row → table q ≡ Some row
  pub done : (q : ℕ) (row : List ℕ) → table q ≡ Some row → lookup (is_at (nat_cmp q)) left ≡ None → length row ≤ 65533

some_is : (one other : List ℕ) → Some one ≡ Some other → one ≡ other
some_is one other e = cc

pub fitting_start : (table : Table) (left : List (ℕ × List ℕ)) → IsStrictlySortedBy nat_cmp (keys_of left) → ((q : ℕ) → table q ≡ lookup (is_at (nat_cmp q)) left) → Fitting table left
fitting_start table left rising whole = record {
  rising = rising;
  sub = λ q row is. whole q ∙ is;
  done = λ q row is none. let never : ⊥ = (let e : Some row ≡ None = sym is ∙ whole q ∙ none in cc) in absurd never;
}

pub fitting_item : (table : Table) (x : ℕ) (row : List ℕ) (left : List (ℕ × List ℕ)) → Fitting table ((x, row) ∷ left) → table x ≡ Some row
fitting_item table x row left f = f.sub x row (rw (key_itself x) refl)

pub fitting_next : (table : Table) (x : ℕ) (row : List ℕ) (left : List (ℕ × List ℕ)) → Fitting table ((x, row) ∷ left) → length row ≤ 65533 → Fitting table left
unfolding IsStrictlySortedBy
fitting_next table x row left f fits =
    let gone : lookup (is_at (nat_cmp x)) left ≡ None = missing x left f.rising.0 in
    record {
      rising = f.rising.1;
      sub = λ q other is. f.sub q other (behind x q row other left gone is);
      done = λ q other is none. elim (eqb_tells x q) [
        | inl same ↦ subst (λ (r : List ℕ). length r ≤ 65533) (some_is row other (sym (fitting_item table x row left f) ∙ ap table same.1 ∙ is)) fits
        | inr differs ↦ f.done q other is (other_key x q row left differs.0 ∙ none)
      ];
    }

-- one current row is too long
pub too_long : (parts : Parts) (x : ℕ) (row : List ℕ) → table_of parts x ≡ Some row → 65533 < length row → FitsPdus parts → ⊥
too_long parts x row is long fits = let most = fits x row (subst (λ (o : Option (List ℕ)). IsCurrentRow parts x o) is (table_is_current parts x)) in omega (arith, most, long)

pub all_fit : (parts : Parts) → Fitting (table_of parts) [] → FitsPdus parts
all_fit parts f x row is = f.done x row (one_row parts x (table_of parts x) (Some row) (table_is_current parts x) is) refl
