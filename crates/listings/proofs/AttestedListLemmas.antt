-- Each table has one list of what it attests, as a script and of one customer.
use Rattle.std.proofs.Common.{◌≡◌, ℕ, Bool, true, false, List, [], ◌∷◌, ◌++◌, map, flat_map, refl, sym, ap, subst, ◌∙◌}
use Rattle.std.specs.FinMap as fin
use Rattle.std.specs.Prelude.{is_some}
use Rattle.std.specs.List.{All}
use Rattle.std.specs.Option.{unwrap_or}
use Rattle.std.specs.Cmp.{nat_cmp_total}
use Rattle.std.specs.declared.option.Option.{Option}
use Rattle.std.specs.declared.option.Option.TheVariants.{Some, None}
use Rattle.std.proofs.lemmas.List.Elements.{All-cons, All-head, All-nil, All-tail}
use Rattle.av_base.specs.One.{HasOne}
use Rattle.path_model.specs.Authority.{Table}
use Rattle.path_model.specs.Rows.{RowMap}
use Rattle.attestations.specs.ComputedTable.{table_of}
use Rattle.attestations.specs.CurrentTable.{IsCurrentTable, Parts}
use Rattle.attestations.proofs.PartsLemmas.{one_row, parts_have_one_table, table_is_current}
use Rattle.report_text.specs.Attested.{current_line}
use Rattle.listings.specs.Attests.{AreAttested, AreGroups, Grouped, rows_under}
use Rattle.listings.specs.AttestsOf.{AreAttestsOf, local_lines, named_sources, source_lines}
use Rattle.listings.proofs.AttestsLemmas.{one_list_of_groups}
use Rattle.listings.proofs.SummaryLemmas.{finite_table}

-- what the sources and the local parts have of a customer, and its row
pub one_list_of_attests_of : (parts : Parts) (customer : ℕ) → HasOne (AreAttestsOf parts customer)
one_list_of_attests_of parts customer =
    let text : Table → List (List ℕ) = λ table. flat_map (source_lines parts.moment customer) (named_sources parts.sources) ++ local_lines parts customer ++ current_line (table customer) ∷ [] in
    record {
      one = text (table_of parts);
      is = record { table = table_of parts; current = table_is_current parts; listed = refl };
      only = λ other is. is.listed
          ∙ ap (λ (row : Option (List ℕ)). flat_map (source_lines parts.moment customer) (named_sources parts.sources) ++ local_lines parts customer ++ current_line row ∷ [])
          (one_row parts customer (is.table customer) (table_of parts customer) (is.current customer) (table_is_current parts customer));
    }

-- the groups of each row
abbrev grouped_of : (rows : List (ℕ × List ℕ)) → List Grouped
grouped_of rows = map (λ (row : ℕ × List ℕ). (row, (one_list_of_groups row.0 row.1).one)) rows

grouped_rows : (rows : List (ℕ × List ℕ)) → map (λ (g : Grouped). g.0) (grouped_of rows) ≡ rows
grouped_rows [] = refl
grouped_rows (row ∷ rows) = ap (λ (rs : List (ℕ × List ℕ)). row ∷ rs) (grouped_rows rows)

grouped_are : (rows : List (ℕ × List ℕ)) → All (λ g. AreGroups g.0.0 g.0.1 g.1) (grouped_of rows)
grouped_are [] = All-nil (λ (g : Grouped). AreGroups g.0.0 g.0.1 g.1)
grouped_are (row ∷ rows) = All-cons (λ (g : Grouped). AreGroups g.0.0 g.0.1 g.1) _ (grouped_of rows) (one_list_of_groups row.0 row.1).is (grouped_are rows)

only_grouped : (rows : List (ℕ × List ℕ)) (grouped : List Grouped) → map (λ (g : Grouped). g.0) grouped ≡ rows → All (λ g. AreGroups g.0.0 g.0.1 g.1) grouped → grouped ≡ grouped_of rows
only_grouped [] [] is are = refl
only_grouped [] (g ∷ gs) is are = cc
only_grouped (row ∷ rows) [] is are = cc
only_grouped (row ∷ rows) (g ∷ gs) is are =
    let first : g.0 ≡ row = cc in
    let rest : map (λ (h : Grouped). h.0) gs ≡ rows = cc in
    let P : ℕ × List ℕ → Type 0 = λ r. AreGroups r.0 r.1 g.1 in
    let groups : g.1 ≡ (one_list_of_groups row.0 row.1).one =
    (one_list_of_groups row.0 row.1).only g.1 (subst P first (All-head (λ (h : Grouped). AreGroups h.0.0 h.0.1 h.1) g gs are)) in
    (λ i. (first i, groups i) ∷ gs)
    ∙ ap (λ (hs : List Grouped). (row, (one_list_of_groups row.0 row.1).one) ∷ hs) (only_grouped rows gs rest (All-tail (λ (h : Grouped). AreGroups h.0.0 h.0.1 h.1) g gs are))

-- the lines of a script that asserts the current table
pub one_list_of_attests : (parts : Parts) → HasOne (AreAttested parts)
one_list_of_attests parts =
    let table = finite_table parts in
    let grouped = grouped_of (fin.entries table.0) in
    record {
      one = flat_map rows_under grouped;
      is = record { table = table.0; current = table.1; grouped = grouped; entries = grouped_rows (fin.entries table.0); groups = grouped_are (fin.entries table.0); listed = refl };
      only = λ other is.
          let rows : (x : ℕ) → fin.get is.table x ≡ fin.get table.0 x = λ x. one_row parts x (fin.get is.table x) (fin.get table.0 x) (is.current x) (table.1 x) in
          let same : is.table ≡ table.0 = fin.same_map nat_cmp_total fin.nat_cmp-IsAntisymmetric is.table table.0 rows in
          is.listed ∙ ap (flat_map rows_under) (only_grouped (fin.entries table.0) is.grouped (is.entries ∙ ap (λ (m : RowMap). fin.entries m) same) is.groups);
    }
