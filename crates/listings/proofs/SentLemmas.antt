-- Routes that are sent, listed line by line, that each state has one list of them, and that none reads as a refusal.
use Rattle.std.proofs.Common.{◌≡◌, ℕ, Bool, true, false, true≢false, cond, is_some, List, [], ◌∷◌, ◌++◌, length, map, filter, flat_map, Some, None, Ok, Err, refl, sym, ap, subst, ◌∙◌, arith}
use Rattle.std.specs.FinMap as fin
use Rattle.std.specs.List.{All, concat}
use Rattle.std.specs.declared.option.Option.{Option}
use Rattle.std.specs.declared.result.Result.{Result}
use Rattle.std.proofs.lemmas.List.Elements.{All-cons, All-head, All-map, All-nil, All-tail}
use Rattle.av_base.specs.One.{HasOne}
use Rattle.av_base.specs.declared.stop.Stop.{Stop}
use Rattle.av_base.specs.declared.stop.Stop.TheVariants.{NoMemory}
use Rattle.av_base.proofs.PouringLemmas.{Grows-refl}
use Rattle.av_base.proofs.ToldLemmas.{AppendsFront-start}
use Rattle.attestations.specs.ComputedTable.{table_of}
use Rattle.attestations.specs.CurrentTable.{Parts}
use Rattle.attestations.proofs.PartsLemmas.{table_is_current}
use Rattle.path_model.specs.declared.key.Key.{Key}
use Rattle.path_model.specs.declared.role.Role.{Role}
use Rattle.path_model.specs.declared.verdict.Verdict.{Verdict}
use Rattle.path_model.specs.Authority.{Table}
use Rattle.path_model.specs.RightVerdict.{IsRight}
use Rattle.path_model.specs.Trail.{Path, path_of}
use Rattle.path_model.proofs.LawLemmas.{one_right}
use Rattle.report_text.specs.Laws.{IsAnswerLine}
use Rattle.report_text.specs.Own.{own_line}
use Rattle.report_text.specs.Reported.{lines_text}
use Rattle.report_text.specs.Rows.{row_line}
use Rattle.report_text.proofs.AnswerLemmas.{own_is_one_line, row_is_one_line}
use Rattle.rib_store.specs.Numbered.{IsNumberOf, AreNumbered}
use Rattle.rib_store.specs.State.{State}
use Rattle.rib_store.specs.Stored.{Stored}
use Rattle.rib_store.proofs.KeyLemmas.{AllFound, all_found}
use Rattle.shared_cases.specs.declared.case.StoredCase.{StoredCase}
use Rattle.shared_cases.specs.Cases.{at, IsStoredAs}
use Rattle.listings.specs.EachSent.{AreHeld, AreSeen, IsHeld, IsSeenCase, IsSentCase, piece_by, piece_of, pieces, verdict_at}
use Rattle.listings.specs.Listing.{Listed, Lists, Pouring, all_of}
use Rattle.listings.specs.Sent.{AreSent, IsSeen, SentRow, first_of, is_sent, of_route, sent_path, sent_row}
use Rattle.listings.proofs.TallyHitLemmas.{same_table}

-- ---- each state has one list

module _ (state : State) (role : Role) (ases : List ℕ) (right_of : (path : Path) → HasOne (IsRight (table_of state.parts) role (first_of ases) path)) where
  abbrev here : Table
  here = table_of state.parts

  abbrev goes : Key → Bool
  goes key = is_sent state.roles key.peer.asn

  abbrev row : Key × Path → Key × Verdict
  row e = (e.0, (right_of (sent_path ases e.1)).one)

  abbrev rows_in : List (Key × Path) → List (Key × Verdict)
  rows_in [] = []
  rows_in (e ∷ es) = cond (goes e.0) (row e ∷ rows_in es) (rows_in es)

  keys_in : (es : List (Key × Path)) → map (λ (r : Key × Verdict). r.0) (rows_in es) ≡ filter goes (map (λ (e : Key × Path). e.0) es)
  keys_in [] = refl
  keys_in (e ∷ es) = by (goes e.0) (keys_in es) where
    by : (b : Bool) → map (λ (r : Key × Verdict). r.0) (rows_in es) ≡ filter goes (map (λ (f : Key × Path). f.0) es)
        → map (λ (r : Key × Verdict). r.0) (cond b (row e ∷ rows_in es) (rows_in es))
        ≡ cond b (e.0 ∷ filter goes (map (λ (f : Key × Path). f.0) es)) (filter goes (map (λ (f : Key × Path). f.0) es))
    by true rest = ap (λ (ks : List Key). e.0 ∷ ks) rest
    by false rest = rest

  abbrev Seen : Key × Verdict → Type 0
  Seen r = IsSeen state here role ases r

  each_in : (es : List (Key × Path)) → AllFound (fin.entries state.routes) es → All Seen (rows_in es)
  each_in [] there = All-nil Seen
  each_in (e ∷ es) there = by (goes e.0) (each_in es there.1) where
    seen : Seen (row e)
    seen = record { path = e.1; route = fin.get-entries state.routes e.0 ∙ there.0; right = (right_of (sent_path ases e.1)).is }

    by : (b : Bool) → All Seen (rows_in es) → All Seen (cond b (row e ∷ rows_in es) (rows_in es))
    by true rest = All-cons Seen (row e) (rows_in es) seen rest
    by false rest = rest

  same_path : (key : Key) (p q : Path) → fin.get state.routes key ≡ Some p → fin.get state.routes key ≡ Some q → p ≡ q
  same_path key p q one other = let e : Some p ≡ Some q = sym one ∙ other in cc

  same_row : (e : Key × Path) (r : Key × Verdict) → fin.get state.routes e.0 ≡ Some e.1 → r.0 ≡ e.0 → Seen r → r ≡ row e
  same_row e r found key seen =
      let path : seen.path ≡ e.1 = same_path e.0 seen.path e.1 (ap (fin.get state.routes) (sym key) ∙ seen.route) found in
      let verdict : r.1 ≡ (right_of (sent_path ases e.1)).one = (right_of (sent_path ases e.1)).only r.1
      (subst (λ (p : Path). IsRight here role (first_of ases) (sent_path ases p) r.1) path seen.right) in
      λ i. (key i, verdict i)

  only_in : (es : List (Key × Path)) (rows : List (Key × Verdict)) → AllFound (fin.entries state.routes) es
      → map (λ (r : Key × Verdict). r.0) rows ≡ filter goes (map (λ (e : Key × Path). e.0) es) → All Seen rows → rows ≡ rows_in es
  only_in [] [] there keys each = refl
  only_in [] (r ∷ rows) there keys each = absurd (omega (arith, ap length keys))
  only_in (e ∷ es) rows there keys each = by (λ rs ks all. only_in es rs there.1 ks all) (goes e.0) rows keys each where
    by : ((rs : List (Key × Verdict)) → map (λ (r : Key × Verdict). r.0) rs ≡ filter goes (map (λ (f : Key × Path). f.0) es) → All Seen rs → rs ≡ rows_in es)
        → (b : Bool) (rs : List (Key × Verdict)) → map (λ (r : Key × Verdict). r.0) rs
        ≡ cond b (e.0 ∷ filter goes (map (λ (f : Key × Path). f.0) es)) (filter goes (map (λ (f : Key × Path). f.0) es))
        → All Seen rs → rs ≡ cond b (row e ∷ rows_in es) (rows_in es)
    by rest_is true [] ks all = absurd (omega (arith, ap length ks))
    by rest_is true (r ∷ rs) ks all =
        let key : r.0 ≡ e.0 = cc in
        let more : map (λ (q : Key × Verdict). q.0) rs ≡ filter goes (map (λ (f : Key × Path). f.0) es) = cc in
        let first : r ≡ row e = same_row e r (fin.get-entries state.routes e.0 ∙ there.0) key (All-head Seen r rs all) in
        let rest : rs ≡ rows_in es = rest_is rs more (All-tail Seen r rs all) in
        λ i. first i ∷ rest i
    by rest_is false rs ks all = rest_is rs ks all

  found : AllFound (fin.entries state.routes) (fin.entries state.routes)
  found = all_found (fin.entries state.routes) (fin.entries_sorted state.routes)

  abbrev own_one : Verdict
  own_one = (right_of (path_of false ases)).one

  pub sent_by : HasOne (AreSent state role ases)
  sent_by = record {
    one = (None, own_one) ∷ map of_route (rows_in (fin.entries state.routes));
    is = record {
      table = here;
      current = table_is_current state.parts;
      own = own_one;
      right = (right_of (path_of false ases)).is;
      routes = rows_in (fin.entries state.routes);
      keys = keys_in (fin.entries state.routes);
      each = each_in (fin.entries state.routes) found;
      rows_are = refl;
    };
    only = λ rows are.
        let table : are.table ≡ here = same_table state.parts are.table are.current in
        let own : are.own ≡ own_one = (right_of (path_of false ases)).only are.own
        (subst (λ (t : Table). IsRight t role (first_of ases) (path_of false ases) are.own) table are.right) in
        let routes : are.routes ≡ rows_in (fin.entries state.routes) = only_in (fin.entries state.routes) are.routes found are.keys
        (subst (λ (t : Table). All (IsSeen state t role ases) are.routes) table are.each) in
        are.rows_are ∙ (λ i. (None, own i) ∷ map of_route (routes i));
  }

pub one_list_of_sent : (state : State) (role : Role) (ases : List ℕ) → HasOne (AreSent state role ases)
one_list_of_sent state role ases = sent_by state role ases (one_right (table_of state.parts) role (first_of ases))

-- ---- line by line

module _ (stored : Stored) (role : Role) (ases : List ℕ) (verdicts : List (Option Verdict)) (seen : AreSeen stored role ases verdicts) where
  abbrev at_once : Table
  at_once = table_of stored.state.parts

  abbrev sent : Key → Bool
  sent key = is_sent stored.state.roles key.peer.asn

  abbrev row_by : Key → Option Verdict → List (Key × Verdict) → List (Key × Verdict)
  row_by key None rest = rest
  row_by key (Some verdict) rest = (key, verdict) ∷ rest

  -- the routes of which a verdict is held, with it
  abbrev held_rows : List (Key × ℕ) → List (Key × Verdict)
  held_rows [] = []
  held_rows (e ∷ es) = row_by e.0 (verdict_at verdicts e.1) (held_rows es)

  lines_by : (es : List (Key × ℕ)) → concat (map (piece_of verdicts) es) ≡ flat_map sent_row (map of_route (held_rows es))
  lines_by [] = refl
  lines_by (e ∷ es) = by (verdict_at verdicts e.1) (lines_by es) where
    by : (o : Option Verdict) → concat (map (piece_of verdicts) es) ≡ flat_map sent_row (map of_route (held_rows es))
        → piece_by e.0 o ++ concat (map (piece_of verdicts) es) ≡ flat_map sent_row (map of_route (row_by e.0 o (held_rows es)))
    by None rest = rest
    by (Some verdict) rest = ap (λ (t : List ℕ). sent_row (of_route (e.0, verdict)) ++ t) rest

  -- what is held of a case is so of each of its routes
  of_case : (c : Option StoredCase) (asn : ℕ) (path : Path) (verdict : Verdict) → IsStoredAs c asn path
      → IsSentCase stored.state c × IsSeenCase stored.state role ases c verdict
      → (is_sent stored.state.roles asn ≡ true) × IsRight at_once role (first_of ases) (sent_path ases path) verdict
  of_case None asn path verdict here is = absurd here
  of_case (Some c) asn path verdict here is = (
    subst (λ (a : ℕ). is_sent stored.state.roles a ≡ true) here.0 is.0,
    subst (λ (p : Path). IsRight at_once role (first_of ases) (sent_path ases p) verdict) here.1 is.1,
  )

  none_held : (e : Key × ℕ) → IsHeld stored verdicts e → verdict_at verdicts e.1 ≡ None → sent e.0 ≡ false
  none_held e held none = by (sent e.0) refl where
    by : (b : Bool) → sent e.0 ≡ b → b ≡ false
    by true is = absurd (true≢false (sym (sym (ap is_some none) ∙ held is)))
    by false is = refl

  keys_by : (es : List (Key × ℕ)) → All (λ (e : Key × ℕ). IsNumberOf stored.state stored.cases e.0 e.1) es → All (IsHeld stored verdicts) es
      → map (λ (r : Key × Verdict). r.0) (held_rows es) ≡ filter sent (map (λ (e : Key × ℕ). e.0) es)
  keys_by [] numbers held = refl
  keys_by (e ∷ es) numbers held = by (verdict_at verdicts e.1) refl
      (keys_by es (All-tail (λ (f : Key × ℕ). IsNumberOf stored.state stored.cases f.0 f.1) e es numbers) (All-tail (IsHeld stored verdicts) e es held)) where
        number : IsNumberOf stored.state stored.cases e.0 e.1
        number = All-head (λ (f : Key × ℕ). IsNumberOf stored.state stored.cases f.0 f.1) e es numbers

        by : (o : Option Verdict) → verdict_at verdicts e.1 ≡ o → map (λ (r : Key × Verdict). r.0) (held_rows es) ≡ filter sent (map (λ (f : Key × ℕ). f.0) es)
            → map (λ (r : Key × Verdict). r.0) (row_by e.0 o (held_rows es))
            ≡ cond (sent e.0) (e.0 ∷ filter sent (map (λ (f : Key × ℕ). f.0) es)) (filter sent (map (λ (f : Key × ℕ). f.0) es))
        by None is rest = rest ∙ ap (λ (b : Bool). cond b (e.0 ∷ filter sent (map (λ (f : Key × ℕ). f.0) es)) (filter sent (map (λ (f : Key × ℕ). f.0) es)))
            (sym (none_held e (All-head (IsHeld stored verdicts) e es held) is))
        by (Some verdict) is rest =
            let up : sent e.0 ≡ true = (of_case (at stored.cases e.1) e.0.peer.asn number.path verdict number.stored (seen e.1 verdict is)).0 in
            ap (λ (ks : List Key). e.0 ∷ ks) rest
            ∙ ap (λ (b : Bool). cond b (e.0 ∷ filter sent (map (λ (f : Key × ℕ). f.0) es)) (filter sent (map (λ (f : Key × ℕ). f.0) es))) (sym up)

  abbrev IsRow : Key × Verdict → Type 0
  IsRow r = IsSeen stored.state at_once role ases r

  each_by : (es : List (Key × ℕ)) → All (λ (e : Key × ℕ). IsNumberOf stored.state stored.cases e.0 e.1) es → All IsRow (held_rows es)
  each_by [] numbers = All-nil IsRow
  each_by (e ∷ es) numbers = by (verdict_at verdicts e.1) refl
      (each_by es (All-tail (λ (f : Key × ℕ). IsNumberOf stored.state stored.cases f.0 f.1) e es numbers)) where
        number : IsNumberOf stored.state stored.cases e.0 e.1
        number = All-head (λ (f : Key × ℕ). IsNumberOf stored.state stored.cases f.0 f.1) e es numbers

        by : (o : Option Verdict) → verdict_at verdicts e.1 ≡ o → All IsRow (held_rows es) → All IsRow (row_by e.0 o (held_rows es))
        by None is rest = rest
        by (Some verdict) is rest = All-cons IsRow (e.0, verdict) (held_rows es)
            (record {
              path = number.path;
              route = number.route;
              right = (of_case (at stored.cases e.1) e.0.peer.asn number.path verdict number.stored (seen e.1 verdict is)).1;
            }) rest

  pub sent_listed : {T : Type 0} (own : Verdict) (routes : List (Key × ℕ)) (old new : Pouring) (result : Result T Stop)
      → IsRight at_once role (first_of ases) (path_of false ases) own → AreNumbered stored.state stored.cases routes → AreHeld stored verdicts
      → Listed (concat (pieces (Some own) verdicts routes)) old new result → Lists (AreSent stored.state role ases) sent_row old new result
  sent_listed {T} own routes old new result right numbered held listed =
      let rows : List SentRow = (None, own) ∷ map of_route (held_rows routes) in
      record {
        rows = rows;
        are = record {
          table = at_once;
          current = table_is_current stored.state.parts;
          own = own;
          right = right;
          routes = held_rows routes;
          keys = keys_by routes numbered.each (held routes numbered) ∙ ap (filter sent) numbered.keys;
          each = each_by routes numbered.each;
          rows_are = refl;
        };
        listed = subst (λ (t : List ℕ). Listed t old new result) (ap (λ (t : List ℕ). sent_row (None, own) ++ t) (lines_by routes)) listed;
      }

-- the same, where the ASes and the table are lent
pub sent_put : {T : Type 0} (stored : Stored) (role : Role) (ases slice : List ℕ) (verdicts lent : List (Option Verdict)) (parts : Parts) (own : Verdict) (routes : List (Key × ℕ))
    (old new : Pouring) (result : Result T Stop) → slice ≡ ases → lent ≡ verdicts → parts ≡ stored.state.parts → AreSeen stored role slice verdicts
    → IsRight (table_of parts) role (first_of slice) (path_of false slice) own → AreNumbered stored.state stored.cases routes → AreHeld stored verdicts
    → Listed (concat (pieces (Some own) lent routes)) old new result → Lists (AreSent stored.state role ases) sent_row old new result
sent_put {T} stored role ases slice verdicts lent parts own routes old new result same verdicts_are parts_are seen right numbered held listed =
    subst (λ (path : List ℕ). Lists (AreSent stored.state role path) sent_row old new result) same
    (sent_listed stored role slice verdicts seen own routes old new result
    (subst (λ (p : Parts). IsRight (table_of p) role (first_of slice) (path_of false slice) own) parts_are right) numbered held
    (subst (λ (vs : List (Option Verdict)). Listed (concat (pieces (Some own) vs routes)) old new result) verdicts_are listed))

-- memory ran out before the first line
pub none_listed : {T : Type 0} (state : State) (role : Role) (ases : List ℕ) (old : Pouring) (result : Result T Stop) → result ≡ Err NoMemory
    → Lists (AreSent state role ases) sent_row old old result
none_listed {T} state role ases old (Ok x) is = let no : ⊥ = cc in absurd no
none_listed {T} state role ases old (Err stop) is =
    let one = one_list_of_sent state role ases in
    let same : stop ≡ NoMemory = cc in
    record {
      rows = one.one;
      are = one.is;
      listed = record {
        whole = tt;
        front = AppendsFront-start (all_of old) (flat_map sent_row one.one);
        held = λ sink. let no : ⊥ = cc in absurd no;
        sink_cause = λ sink. let no : ⊥ = cc in absurd no;
        sink_faults = omega arith;
        grows = Grows-refl old.written;
        no_shelf = λ shelf. cc;
      };
    }

-- ---- lines

abbrev pub sent_line_of : SentRow → List ℕ
sent_line_of (None, verdict) = own_line verdict
sent_line_of (Some key, verdict) = row_line key verdict

line_is : (row : SentRow) → sent_row row ≡ sent_line_of row ++ 10 ∷ []
line_is (None, verdict) = refl
line_is (Some key, verdict) = refl

pub sent_are_lines : (rows : List SentRow) → flat_map sent_row rows ≡ lines_text (map sent_line_of rows)
sent_are_lines [] = refl
sent_are_lines (row ∷ rows) = (λ i. line_is row i ++ sent_are_lines rows i)

each_answers : (row : SentRow) → IsAnswerLine (sent_line_of row)
each_answers (None, verdict) = own_is_one_line verdict
each_answers (Some key, verdict) = row_is_one_line key verdict

pub sent_answer : (rows : List SentRow) → All IsAnswerLine (map sent_line_of rows)
sent_answer rows = All-map IsAnswerLine sent_line_of rows (λ k row within. each_answers _)
