-- From one version of the rows to the next.
use Rattle.std.proofs.Common.{◌≡◌, ◌≢◌, ℕ, nat_eq, Bool, true, false, cond, ◌⊎◌, List, [], ◌∷◌, Some, None, is_some, inl, inr, refl, sym, ap, subst, ◌∙◌}
use Rattle.std.specs.declared.option.Option.{Option}
use Rattle.std.specs.Ordering.{nat_cmp}
use Rattle.std.specs.Cmp.{nat_cmp_total}
use Rattle.std.specs.Cmp.Lexicographic.{pointwise}
use Rattle.std.specs.FinMap as map
use Rattle.std.specs.List.Sorted.{IsStrictlyIncreasing}
use Rattle.path_model.specs.Authority.{Table}
use Rattle.attestations.specs.CurrentTable.{Parts, IsCurrentRow}
use Rattle.attestations.specs.ComputedTable.{table_of}
use Rattle.path_model.specs.Rows.{RowMap, PatchMap, SetsPatch, SetsRow, IsRowOf}
use Rattle.path_model.proofs.MapLemmas.{get_rows}
use Rattle.attestations.proofs.PartsLemmas.{one_row, table_is_current}
use Rattle.attestations.specs.Moves.{same_rows}
use Rattle.attestations.proofs.MovesLemmas.{same_rows_equal}
use Rattle.rtr_session.proofs.SetLemmas.{IsSetOf-unique, row_given}
use Rattle.vap_table.specs.Sources.{IsSetIfGiven}
use Rattle.rtr_cache.specs.Kept.{LeadsBack, Visits, held_noted, new_noted, row_taken, visited}
use Rattle.rtr_cache.proofs.RowLemmas.{key_itself, not_same, own_set, test_same}

-- the row that a patch was given, as an ascending list
pub patch_set : (old new : PatchMap) (x : ℕ) (row : List ℕ) → IsStrictlyIncreasing row → SetsPatch old x (Some row) new → (q : ℕ) → map.get new q ≡ cond (nat_eq x q) (Some (Some row)) (map.get old q)
patch_set old new x row ascending sets q =
    let given : sets.row ≡ Some row = row_given row row sets.row (own_set row ascending) sets.is_row in
    ap (λ (m : PatchMap). map.get m q) (sets.whole ∙ ap (λ (o : Option (List ℕ)). map.insert old x o) given) ∙ map.get-insert nat_cmp_total old x (Some row) q
    ∙ ap (λ (b : Bool). cond b (Some (Some row)) (map.get old q)) (test_same q x)

none_given : (given : Option (List ℕ)) → (sets : IsRowOf None given) → given ≡ None
none_given None sets = refl
none_given (Some row) sets = absurd sets

pub patch_none : (old new : PatchMap) (x : ℕ) → SetsPatch old x None new → (q : ℕ) → map.get new q ≡ cond (nat_eq x q) (Some None) (map.get old q)
patch_none old new x sets q =
    ap (λ (m : PatchMap). map.get m q) (sets.whole ∙ ap (λ (o : Option (List ℕ)). map.insert old x o) (none_given sets.row sets.is_row)) ∙ map.get-insert nat_cmp_total old x None q
    ∙ ap (λ (b : Bool). cond b (Some None) (map.get old q)) (test_same q x)

pub row_set : (old new : RowMap) (x : ℕ) (row : List ℕ) → IsStrictlyIncreasing row → SetsRow old x row new → (q : ℕ) → map.get new q ≡ cond (nat_eq x q) (Some row) (map.get old q)
row_set old new x row ascending sets q =
    ap (λ (m : RowMap). map.get m q) (sets.whole ∙ ap (λ (r : List ℕ). map.insert old x r) (IsSetOf-unique row sets.row row sets.is_set (own_set row ascending))) ∙ map.get-insert nat_cmp_total old x row q
    ∙ ap (λ (b : Bool). cond b (Some row) (map.get old q)) (test_same q x)

pub row_gone : (old : RowMap) (x q : ℕ) → map.get (map.remove old x) q ≡ cond (nat_eq x q) None (map.get old q)
row_gone old x q = map.get-remove nat_cmp_total old x q ∙ ap (λ (b : Bool). cond b None (map.get old q)) (test_same q x)

-- the row that is looked up is the table's
pub row_looked : (parts : Parts) (x : ℕ) (row : Option (List ℕ)) → IsCurrentRow parts x row → row ≡ table_of parts x
row_looked parts x row is = one_row parts x row (table_of parts x) is (table_is_current parts x)

pub table_set : (parts : Parts) (x : ℕ) (row : Option (List ℕ)) → IsCurrentRow parts x row → IsSetIfGiven row
table_set parts x None is = tt
table_set parts x (Some row) is = is.ascending

pub taken_set : (parts : Parts) (x : ℕ) (row : List ℕ) → table_of parts x ≡ Some row → IsSetIfGiven (Some row)
taken_set parts x row is = table_set parts x (Some row) (subst (λ (o : Option (List ℕ)). IsCurrentRow parts x o) is (table_is_current parts x))

taken_at : (row : Option (List ℕ)) (q : ℕ) → visited (row_taken q) row None ≡ row
taken_at None q = refl
taken_at (Some row) q = refl

-- all rows of a table were taken
pub all_taken : (table : Table) (rows : RowMap) → Visits table row_taken (λ q. None) (λ q. map.get rows q) → (q : ℕ) → map.get rows q ≡ table q
all_taken table rows visits q = visits q ∙ taken_at (table q) q

-- ---- what leads back

-- what is noted of a customer, or nothing
Noted : Option (List ℕ) → Option (List ℕ) → Option (Option (List ℕ)) → Type 0
Noted row table now = ((now ≡ None) × (table ≡ row)) ⊎ ((now ≡ Some row) × (table ≢ row))

some_none : (row : List ℕ) → Some row ≢ None
some_none row e = let never : ⊥ = cc in never

none_some : (row : List ℕ) → None ≢ Some row
none_some row e = let never : ⊥ = cc in never

-- by whether it is the same row
held_at : (b : Bool) (row other : List ℕ) (held now : Option (Option (List ℕ))) → pointwise nat_eq row other ≡ b → held ≡ cond b None (Some (Some row)) → now ≡ held → Noted (Some row) (Some other) now
unfolding Noted
held_at true row other held now same e f = inl (f ∙ e, sym (same_rows_equal (Some row) (Some other) same))
held_at false row other held now same e f = inr (f ∙ e, λ is. not_same (Some row) (Some other) same (sym is))

noted_at : (row table : Option (List ℕ)) (held now : Option (Option (List ℕ))) → held ≡ visited (λ (r : List ℕ) (old : Option (Option (List ℕ))). cond (same_rows (Some r) table) old (Some (Some r))) row None
    → now ≡ visited (λ (r : List ℕ) (old : Option (Option (List ℕ))). cond (is_some row) old (Some None)) table held → Noted row table now
unfolding Noted
noted_at None None held now e f = inl (f ∙ e, refl)
noted_at None (Some other) held now e f = inr (f, some_none other)
noted_at (Some row) None held now e f = inr (f ∙ e, none_some row)
noted_at (Some row) (Some other) held now e f = held_at (pointwise nat_eq row other) row other held now refl e f

noted_back : (rows : RowMap) (table : Table) (start held back : PatchMap) → start ≡ map.empty → Visits (λ q. map.get rows q) (held_noted table) (λ q. map.get start q) (λ q. map.get held q)
    → Visits table (new_noted rows) (λ q. map.get held q) (λ q. map.get back q) → (q : ℕ) → Noted (map.get rows q) (table q) (map.get back q)
noted_back rows table start held back none first second q =
    let empty : map.get start q ≡ None = ap (λ (m : PatchMap). map.get m q) none ∙ map.get-empty nat_cmp q in
    noted_at (map.get rows q) (table q) (map.get held q) (map.get back q)
    (first q ∙ ap (λ (o : Option (Option (List ℕ))). visited (held_noted table q) (map.get rows q) o) empty) (second q)

back_same : (row table : Option (List ℕ)) (now : Option (Option (List ℕ))) → Noted row table now → now ≡ None → table ≡ row
unfolding Noted
back_same row table now (inl same) e = same.1
back_same row table now (inr other) e = let never : ⊥ = (let f : Some row ≡ None = sym other.0 ∙ e in cc) in absurd never

some_is : (one other : Option (List ℕ)) → Some one ≡ Some other → one ≡ other
some_is one other e = cc

back_named : (row table had : Option (List ℕ)) (now : Option (Option (List ℕ))) → Noted row table now → now ≡ Some had → (row ≡ had) × (table ≢ had)
unfolding Noted
back_named row table had now (inl same) e = let never : ⊥ = (let f : None ≡ Some had = sym same.0 ∙ e in cc) in absurd never
back_named row table had now (inr other) e = let is : row ≡ had = some_is row had (sym other.0 ∙ e) in (is, λ f. other.1 (f ∙ sym is))

pub leads_back : (rows : RowMap) (table : Table) (start held back : PatchMap) → start ≡ map.empty → Visits (λ q. map.get rows q) (held_noted table) (λ q. map.get start q) (λ q. map.get held q)
    → Visits table (new_noted rows) (λ q. map.get held q) (λ q. map.get back q) → LeadsBack rows table back
leads_back rows table start held back none first second =
    let noted = noted_back rows table start held back none first second in
    record {
      same = λ x e. back_same (map.get rows x) (table x) (map.get back x) (noted x) e;
      named = λ x row e. back_named (map.get rows x) (table x) row (map.get back x) (noted x) e;
    }

-- ---- whether a patch names anything

pub named_none : (left : List (ℕ × Option (List ℕ))) (patch : PatchMap) → map.from_entries left ≡ patch → left ≡ [] → patch ≡ map.empty
named_none left patch whole e = sym whole ∙ ap (λ (es : List (ℕ × Option (List ℕ))). map.from_entries {R = nat_cmp} es) e

pub named_some : (left after : List (ℕ × Option (List ℕ))) (e : ℕ × Option (List ℕ)) (patch : PatchMap) → map.from_entries left ≡ patch → left ≡ e ∷ after → patch ≡ map.empty → ⊥
named_some left after e patch whole is empty =
    let found : map.get (map.from_entries {R = nat_cmp} (e ∷ after)) e.0 ≡ Some e.1 = get_rows (e ∷ after) e.0 ∙ rw (key_itself e.0) refl in
    let none : map.get (map.from_entries {R = nat_cmp} (e ∷ after)) e.0 ≡ None =
    ap (λ (es : List (ℕ × Option (List ℕ))). map.get (map.from_entries {R = nat_cmp} es) e.0) (sym is) ∙ ap (λ (m : PatchMap). map.get m e.0) (whole ∙ empty) ∙ map.get-empty nat_cmp e.0 in
    let never : ⊥ = (let f : Some e.1 ≡ None = sym found ∙ none in cc) in never
