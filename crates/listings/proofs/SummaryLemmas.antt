-- Each state has one summary, and its current table is a finite map.
use Rattle.std.proofs.Common.{◌≡◌, ℕ, Bool, true, false, nat_eq, is_some, ◌&&◌, ◌||◌, List, [], ◌∷◌, ◌++◌, length, cond, refl, sym, ap, ◌∙◌, subst}
use Rattle.std.specs.Prelude.{filter}
use Rattle.std.specs.declared.option.Option.{Option}
use Rattle.std.specs.declared.option.Option.TheVariants.{Some, None}
use Rattle.std.specs.FinMap as map
use Rattle.std.specs.Ordering.{nat_cmp}
use Rattle.std.specs.Cmp.{nat_cmp_total, eq_by_cmp_equiv, unsigned_tied}
use Rattle.std.proofs.lemmas.List.Kept.{IsStrictlyIncreasing-filter}
use Rattle.std.proofs.lemmas.Map.Keys.{IsStrictlyIncreasing-from_sorted, sorted_from_strictly_increasing}
use Rattle.std.proofs.lemmas.Map.Views.{any-filter_same, exact_unsigned_eq}
use Rattle.path_model.specs.Ascending.{ascending_of}
use Rattle.path_model.specs.Authority.{Table, has}
use Rattle.attestations.specs.ComputedTable.{onto, attested, unfiltered, sourced, given, row_made, table_of}
use Rattle.path_model.specs.Rows.{RowMap}
use Rattle.attestations.specs.CurrentTable.{IsCurrentRow, IsCurrentTable, Parts}
use Rattle.attestations.specs.Terms.{SetOfTerms, TermMap, alive_among, alive_of}
use Rattle.path_model.proofs.AscendingLemmas.{ascending_sorted, has_ascending, same_members}
use Rattle.path_model.proofs.MemberLemmas.{has-append}
use Rattle.attestations.proofs.PartsLemmas.{parts_have_one_table, table_is_current}
use Rattle.attestations.proofs.TermLemmas.{members_empty}
use Rattle.vap_table.specs.Vaps.{IsNumberOfRows}
use Rattle.vap_table.proofs.MemberLemmas.{has_key}
use Rattle.report_text.specs.declared.summary.Summary.{Summary}
use Rattle.rib_store.specs.declared.counts.Counts.{Counts}
use Rattle.rib_store.specs.State.{State}
use Rattle.rib_store.proofs.ReportLemmas.{some_counts, one_counts}
use Rattle.listings.specs.Summary.{IsSummary}

-- ---- the customers of a current table

-- all customers that some source has an attestation of
abbrev attesting : List (List ℕ × TermMap) → List ℕ
attesting [] = []
attesting (source ∷ more) = map.keys source.1 ++ attesting more

-- all that are named in any way
abbrev named : Parts → List ℕ
named parts = map.keys parts.slurm_assertions ++ (map.keys parts.assertions ++ attesting parts.sources)

has_named : {X : Type 0} (rows : map.FinMap nat_cmp X) (x : ℕ) → has (map.keys rows) x ≡ is_some (map.get rows x)
has_named rows x = sym (has_key (map.keys rows) x) ∙ sym (map.contains_key-keys rows x)

neither_left : (a b : Bool) → (a || b) ≡ false → a ≡ false
neither_left true b e = e
neither_left false b e = refl

neither_right : (a b : Bool) → (a || b) ≡ false → b ≡ false
neither_right true b e = absurd cc
neither_right false b e = e

none_onto : (row : Option (List ℕ)) (rows : List (List ℕ)) → is_some row ≡ false → rows ≡ [] → onto row rows ≡ []
none_onto None rows none no_more = no_more
none_onto (Some row) rows none no_more = absurd cc

none_alive : (moment : ℕ) (terms : Option SetOfTerms) → is_some terms ≡ false → alive_of moment terms ≡ []
none_alive moment None none = ap (alive_among moment) members_empty
none_alive moment (Some terms) none = absurd cc

neither : (rows more : List (List ℕ)) → rows ≡ [] → more ≡ [] → rows ++ more ≡ []
neither rows more none no_more = λ i. none i ++ no_more i

none_attested : (moment : ℕ) (sources : List (List ℕ × TermMap)) (x : ℕ) → has (attesting sources) x ≡ false → attested moment sources x ≡ []
none_attested moment [] x none = refl
none_attested moment (source ∷ more) x none =
    let each = sym (has-append (map.keys source.1) (attesting more) x) ∙ none in
    neither (alive_of moment (map.get source.1 x)) (attested moment more x)
    (none_alive moment (map.get source.1 x) (sym (has_named source.1 x) ∙ neither_left _ _ each)) (none_attested moment more x (neither_right _ _ each))

none_unfiltered : (one other : Bool) (rows : List (List ℕ)) → rows ≡ [] → unfiltered one other rows ≡ []
none_unfiltered true other rows none = refl
none_unfiltered false true rows none = refl
none_unfiltered false false rows none = none

-- who isn't named has no row
none_given : (parts : Parts) (x : ℕ) → has (named parts) x ≡ false → given parts x ≡ []
none_given parts x none =
    let each = sym (has-append (map.keys parts.slurm_assertions) (map.keys parts.assertions ++ attesting parts.sources) x) ∙ none in
    let rest = sym (has-append (map.keys parts.assertions) (attesting parts.sources) x) ∙ neither_right _ _ each in
    none_onto (map.get parts.slurm_assertions x) _ (sym (has_named parts.slurm_assertions x) ∙ neither_left _ _ each)
    (none_onto (map.get parts.assertions x) (sourced parts x) (sym (has_named parts.assertions x) ∙ neither_left _ _ rest)
    (none_unfiltered (has parts.slurm_filters x) (has parts.filters x) (attested parts.moment parts.sources x) (none_attested parts.moment parts.sources x (neither_right _ _ rest))))

no_row : (parts : Parts) (x : ℕ) → has (named parts) x ≡ false → is_some (table_of parts x) ≡ false
no_row parts x none = ap (λ (rows : List (List ℕ)). is_some (row_made rows)) (none_given parts x none)

-- whether a customer has a row
abbrev attests : Parts → ℕ → Bool
attests parts x = is_some (table_of parts x)

kept_and : (row here : Bool) → (here ≡ false → row ≡ false) → (row && here) ≡ row
kept_and true true only = refl
kept_and true false only = sym (only refl)
kept_and false here only = refl

same_customer : (x k : ℕ) → nat_eq k x ≡ true → k ≡ x
same_customer x k t = exact_unsigned_eq k x t

-- exactly those who have a row
customers_of : (parts : Parts) (x : ℕ) → has (filter (attests parts) (ascending_of (named parts))) x ≡ attests parts x
customers_of parts x =
    any-filter_same (λ k. nat_eq k x) (attests parts) (attests parts x) (λ k t. ap (attests parts) (same_customer x k t)) (ascending_of (named parts))
    ∙ ap (λ (b : Bool). attests parts x && b) (has_ascending (named parts) x)
    ∙ kept_and (attests parts x) (has (named parts) x) (no_row parts x)

some_number : (parts : Parts) → (customers : ℕ) × IsNumberOfRows (table_of parts) customers
some_number parts =
    let customers = filter (attests parts) (ascending_of (named parts)) in (
      length customers,
      record {
        customers = customers;
        rising = IsStrictlyIncreasing-filter (attests parts) (ascending_of (named parts)) (IsStrictlyIncreasing-from_sorted (ascending_of (named parts)) (ascending_sorted (named parts)));
        exactly = customers_of parts;
        counted = refl;
      },
    )

-- ---- the current table as a finite map

abbrev with_row : RowMap → ℕ → Option (List ℕ) → RowMap
with_row rows x None = rows
with_row rows x (Some row) = map.insert rows x row

abbrev nothing : Option (List ℕ)
nothing = None

both_none : (b : Bool) → cond b nothing nothing ≡ nothing
both_none true = refl
both_none false = refl

module _ (parts : Parts) where
  abbrev rows_at : List ℕ → RowMap
  rows_at [] = map.empty
  rows_at (x ∷ xs) = with_row (rows_at xs) x (table_of parts x)

  abbrev row_at : ℕ → Bool → Option (List ℕ)
  row_at q here = cond here (table_of parts q) None

  one_more : (rows : RowMap) (x q : ℕ) (row : Option (List ℕ)) (here there : Bool) → row ≡ table_of parts x → nat_eq x q ≡ here → map.get rows q ≡ row_at q there
      → map.get (with_row rows x row) q ≡ row_at q (here || there)
  one_more rows x q None true there is same so_far =
      let none : table_of parts q ≡ None = ap (table_of parts) (sym (exact_unsigned_eq x q same)) ∙ sym is in
      so_far ∙ ap (λ (o : Option (List ℕ)). cond there o None) none ∙ both_none there ∙ sym none
  one_more rows x q None false there is same so_far = so_far
  one_more rows x q (Some row) true there is same so_far =
      map.get-insert nat_cmp_total rows x row q
      ∙ ap (λ (b : Bool). cond b (Some row) (map.get rows q)) ((eq_by_cmp_equiv nat_cmp_total).symm q x ∙ unsigned_tied x q ∙ same)
      ∙ is ∙ ap (table_of parts) (exact_unsigned_eq x q same)
  one_more rows x q (Some row) false there is same so_far =
      map.get-insert nat_cmp_total rows x row q
      ∙ ap (λ (b : Bool). cond b (Some row) (map.get rows q)) ((eq_by_cmp_equiv nat_cmp_total).symm q x ∙ unsigned_tied x q ∙ same)
      ∙ so_far

  at_each : (xs : List ℕ) (q : ℕ) → map.get (rows_at xs) q ≡ row_at q (has xs q)
  at_each [] q = map.get-empty nat_cmp q
  at_each (x ∷ xs) q = one_more (rows_at xs) x q (table_of parts x) (nat_eq x q) (has xs q) refl refl (at_each xs q)

  whole : (q : ℕ) (here : Bool) → has (named parts) q ≡ here → row_at q here ≡ table_of parts q
  whole q true here = refl
  whole q false none = sym (ap (λ (rows : List (List ℕ)). row_made rows) (none_given parts q none))

  -- the current table has finitely many rows
  pub finite_table : (table : RowMap) × IsCurrentTable parts (λ x. map.get table x)
  finite_table = (
    rows_at (named parts),
    λ x. subst (IsCurrentRow parts x) (sym (at_each (named parts) x ∙ whole x (has (named parts) x) refl)) (table_is_current parts x),
  )

one_number : (one other : Table) (m n : ℕ) → ((x : ℕ) → one x ≡ other x) → IsNumberOfRows one m → IsNumberOfRows other n → m ≡ n
one_number one other m n same a b = a.counted
    ∙ ap length (same_members a.customers b.customers (sorted_from_strictly_increasing a.customers a.rising) (sorted_from_strictly_increasing b.customers b.rising)
    (λ x. a.exactly x ∙ ap (λ (row : Option (List ℕ)). is_some row) (same x) ∙ sym (b.exactly x)))
    ∙ sym b.counted

-- ---- summaries

abbrev made : Counts → ℕ → ℕ → ℕ → Summary
made counts customers passed refused = record {
  routes = counts.routes;
  valid = counts.valid;
  unknown = counts.unknown;
  invalid = counts.invalid;
  customers = customers;
  passed = passed;
  refused = refused;
}

-- some summary is a state's
pub some_summary : (state : State) (passed refused : ℕ) → (summary : Summary) × IsSummary state passed refused summary
some_summary state passed refused =
    let counts = some_counts state in
    let number = some_number state.parts in (
      made counts.0 number.0 passed refused,
      record {
        counts = counts.0;
        are = counts.1;
        table = table_of state.parts;
        current = table_is_current state.parts;
        customers = number.0;
        attest = number.1;
        summary_is = refl;
      },
    )

-- and no other
pub one_summary : (state : State) (passed refused : ℕ) (one other : Summary) → IsSummary state passed refused one → IsSummary state passed refused other → one ≡ other
one_summary state passed refused one other a b =
    let tables = parts_have_one_table state.parts in
    let counts : a.counts ≡ b.counts = one_counts state b.counts a.counts b.are a.are in
    let customers : a.customers ≡ b.customers = one_number a.table b.table a.customers b.customers
    (λ x. tables.only a.table a.current x ∙ sym (tables.only b.table b.current x)) a.attest b.attest in
    a.summary_is ∙ (λ i. made (counts i) (customers i) passed refused) ∙ sym b.summary_is
