-- Details that are written line by line, that each state has one list of them, and that none reads as a refusal.
use Rattle.std.proofs.Common.{◌≡◌, ℕ, Bool, true, false, cond, List, [], ◌∷◌, ◌++◌, get_or, length, map, flat_map, if◌then◌else◌, refl, sym, ap, subst, ◌∙◌, arith}
use Rattle.std.specs.FinMap as fin
use Rattle.std.specs.List.{All, concat}
use Rattle.std.specs.Option.{unwrap_or}
use Rattle.std.specs.Prelude.{Some}
use Rattle.std.specs.declared.option.Option.{Option}
use Rattle.std.specs.declared.result.Result.{Result}
use Rattle.std.proofs.lemmas.List.Elements.{All-from_recursion, All-head, All-map, All-tail, All-weaker}
use Rattle.std.proofs.lemmas.Simd.{map-map}
use Rattle.av_base.specs.One.{HasOne, HasOnePair}
use Rattle.path_model.specs.declared.key.Key.{Key}
use Rattle.path_model.specs.declared.role.Role.{Role}
use Rattle.path_model.specs.declared.verdict.Verdict.{Verdict}
use Rattle.path_model.specs.declared.witness.Witness.{Witness}
use Rattle.path_model.specs.Authority.{Table}
use Rattle.path_model.specs.Key.{key_cmp}
use Rattle.path_model.specs.PrintedWitness.{IsPrinted}
use Rattle.path_model.specs.Roles.{role_of}
use Rattle.path_model.specs.Trail.{Path}
use Rattle.path_model.proofs.LawLemmas.{one_printed}
use Rattle.path_model.proofs.WitnessLemmas.{printed_facts}
use Rattle.attestations.specs.ComputedTable.{table_of}
use Rattle.attestations.proofs.PartsLemmas.{parts_have_one_table, table_is_current}
use Rattle.report_text.specs.Details.{detail_line}
use Rattle.report_text.specs.Laws.{IsAnswerLine}
use Rattle.report_text.specs.Reported.{lines_text}
use Rattle.report_text.proofs.AnswerLemmas.{detail_is_one_line}
use Rattle.rib_store.specs.Shown.{AreShown, IsExplained, IsRouteStanding, Standing}
use Rattle.rib_store.specs.State.{State}
use Rattle.rib_store.proofs.KeyLemmas.{AllFound, all_found}
use Rattle.av_base.specs.declared.stop.Stop.{Stop}
use Rattle.conditions.specs.declared.asked.Conditions.{Conditions}
use Rattle.listings.specs.Listing.{Listed, Lists, Pouring}
use Rattle.listings.specs.Details.{AreDetails, asked_of, detail_row, is_asked}
use Rattle.listings.specs.EachDetail.{piece_of}

-- ---- the list of all routes

module _ (state : State) (witness_of : (asn : ℕ) (path : Path) → HasOnePair (IsPrinted (table_of state.parts) (role_of state.roles asn) asn path)) where
  abbrev here : Table
  here = table_of state.parts

  abbrev role_at : Key → Role
  role_at key = role_of state.roles key.peer.asn

  -- a route as it stands
  abbrev stands : Key × Path → Key × Standing
  stands e = (
    e.0,
    record { path = e.1; role = role_at e.0; verdict = (witness_of e.0.peer.asn e.1).one; witness = (witness_of e.0.peer.asn e.1).its },
  )

  abbrev IsRow : Key × Standing → Type 0
  IsRow row = IsRouteStanding state row.0 row.1

  is_row : (key : Key) (path : Path) → fin.get state.routes key ≡ Some path → IsRow (stands (key, path))
  is_row key path route =
      let one = witness_of key.peer.asn path in
      record {
        route = route;
        role = refl;
        current = record { path = path; route = route; table = here; current = table_is_current state.parts; right = one.is.right };
        explained = record {
          path = path;
          route = route;
          table = here;
          current = table_is_current state.parts;
          printed = one.is;
          facts = printed_facts here (role_at key) key.peer.asn path one.one one.its one.is;
        };
      }

  found : AllFound (fin.entries state.routes) (fin.entries state.routes)
  found = all_found (fin.entries state.routes) (fin.entries_sorted state.routes)

  pub shown_by : AreShown state (map stands (fin.entries state.routes))
  shown_by = record {
    keys = map-map (λ (row : Key × Standing). row.0) stands (fin.entries state.routes);
    each = All-map IsRow stands (fin.entries state.routes)
        (All-weaker (λ (e : Key × Path). fin.find key_cmp e.0 (fin.entries state.routes) ≡ Some e.1) (λ (e : Key × Path). IsRow (stands e))
        (λ e there. is_row e.0 e.1 (fin.get-entries state.routes e.0 ∙ there)) (fin.entries state.routes)
        (All-from_recursion (λ (e : Key × Path). fin.find key_cmp e.0 (fin.entries state.routes) ≡ Some e.1) (fin.entries state.routes) found));
  }

  -- ---- and no other list

  same_path : (key : Key) (p q : Path) → fin.get state.routes key ≡ Some p → fin.get state.routes key ≡ Some q → p ≡ q
  same_path key p q one other = ap (λ (o : Option Path). unwrap_or o p) (sym one ∙ other)

  -- what explains a route is what the law gives
  explained_so : (key : Key) (path : Path) (v : Verdict) (w : Witness) → fin.get state.routes key ≡ Some path → IsExplained state key v w
      → (v ≡ (witness_of key.peer.asn path).one) × (w ≡ (witness_of key.peer.asn path).its)
  explained_so key path v w route is =
      let tables = parts_have_one_table state.parts in
      let table : is.table ≡ here = λ i q. (tables.only is.table is.current q ∙ sym (tables.only here (table_is_current state.parts) q)) i in
      (witness_of key.peer.asn path).only v w
      (subst (λ (p : Path). IsPrinted here (role_at key) key.peer.asn p v w) (same_path key is.path path is.route route)
      (subst (λ (t : Table). IsPrinted t (role_at key) key.peer.asn is.path v w) table is.printed))

  stands_so : (key : Key) (path : Path) (s : Standing) → fin.get state.routes key ≡ Some path → IsRouteStanding state key s → s ≡ (stands (key, path)).1
  stands_so key path s route is =
      let path_is : s.path ≡ path = same_path key s.path path is.route route in
      let why = explained_so key path s.verdict s.witness route is.explained in
      λ i. record { path = path_is i; role = is.role i; verdict = why.0 i; witness = why.1 i }

  only_rows : (es : List (Key × Path)) (rows : List (Key × Standing)) → AllFound (fin.entries state.routes) es
      → map (λ (row : Key × Standing). row.0) rows ≡ map (λ (e : Key × Path). e.0) es → All IsRow rows → rows ≡ map stands es
  only_rows [] [] there keys each = refl
  only_rows [] (row ∷ rows) there keys each = absurd (omega (arith, ap length keys))
  only_rows (e ∷ es) [] there keys each = absurd (omega (arith, ap length keys))
  only_rows (e ∷ es) (row ∷ rows) there keys each =
      let key : row.0 ≡ e.0 = cc in
      let more : map (λ (r : Key × Standing). r.0) rows ≡ map (λ (f : Key × Path). f.0) es = cc in
      let is : IsRouteStanding state e.0 row.1 = subst (λ (k : Key). IsRouteStanding state k row.1) key (All-head IsRow row rows each) in
      let same : row.1 ≡ (stands e).1 = stands_so e.0 e.1 row.1 (fin.get-entries state.routes e.0 ∙ there.0) is in
      let rest : rows ≡ map stands es = only_rows es rows there.1 more (All-tail IsRow row rows each) in
      λ i. (key i, same i) ∷ rest i

  pub details_by : (asked : Conditions) → HasOne (AreDetails state asked)
  details_by asked = record {
    one = asked_of asked (map stands (fin.entries state.routes));
    is = record { all = map stands (fin.entries state.routes); are = shown_by; asked_for = refl };
    only = λ rows are. are.asked_for ∙ ap (asked_of asked) (only_rows (fin.entries state.routes) are.all found are.are.keys are.are.each);
  }

pub one_list_of_details : (state : State) (asked : Conditions) → HasOne (AreDetails state asked)
one_list_of_details state asked = details_by state (λ asn path. one_printed (table_of state.parts) (role_of state.roles asn) asn path) asked

-- ---- line by line

-- what the steps of some routes add are the lines of those that are asked for
one_more : (asked : Bool) (row : Key × Standing) (rows : List (Key × Standing)) → (if asked then detail_row row else []) ++ flat_map detail_row rows ≡ flat_map detail_row (cond asked (row ∷ rows) rows)
one_more true row rows = refl
one_more false row rows = refl

pieces_are : (asked : Conditions) (rows : List (Key × Standing)) → concat (map (piece_of asked) rows) ≡ flat_map detail_row (asked_of asked rows)
pieces_are asked [] = refl
pieces_are asked (row ∷ rows) = ap (λ (t : List ℕ). piece_of asked row ++ t) (pieces_are asked rows) ∙ one_more (is_asked asked row) row (asked_of asked rows)

pub details_listed : {T : Type 0} (state : State) (asked : Conditions) (all : List (Key × Standing)) (old new : Pouring) (result : Result T Stop) → AreShown state all
    → Listed (concat (map (piece_of asked) all)) old new result → Lists (AreDetails state asked) detail_row old new result
details_listed {T} state asked all old new result are listed = record {
  rows = asked_of asked all;
  are = record { all = all; are = are; asked_for = refl };
  listed = subst (λ (t : List ℕ). Listed t old new result) (pieces_are asked all) listed;
}

-- ---- lines

abbrev pub detail_line_of : Key × Standing → List ℕ
detail_line_of row = detail_line row.0 row.1.verdict row.1.witness row.1.path

pub details_are_lines : (rows : List (Key × Standing)) → flat_map detail_row rows ≡ lines_text (map detail_line_of rows)
details_are_lines [] = refl
details_are_lines (row ∷ rows) = ap (λ (t : List ℕ). detail_row row ++ t) (details_are_lines rows)

details_answer_each : (row : Key × Standing) → IsAnswerLine (detail_line_of row)
details_answer_each row = detail_is_one_line row.0 row.1.verdict row.1.witness row.1.path

pub details_answer : (rows : List (Key × Standing)) → All IsAnswerLine (map detail_line_of rows)
details_answer rows = All-map IsAnswerLine detail_line_of rows (λ k row within. details_answer_each (get_or rows k row))
