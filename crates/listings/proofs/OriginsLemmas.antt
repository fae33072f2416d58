-- Rows of states that are written line by line, and that none reads as a refusal.
use Rattle.std.proofs.Common.{◌≡◌, ℕ, ◌<◌, ◌≤◌, List, [], ◌∷◌, ◌++◌, length, map, Ok, Err, IsErrOf, OnOk, refl, sym, subst, ◌∙◌, ap, append_assoc}
use Rattle.std.specs.FinMap as fin
use Rattle.std.specs.Io.KnownBytes.{append_known}
use Rattle.std.specs.List.{All}
use Rattle.std.specs.declared.option.Option.{Option}
use Rattle.std.specs.declared.result.Result.{Result}
use Rattle.std.proofs.lemmas.List.{append-nil}
use Rattle.std.proofs.lemmas.List.Elements.{All-map}
use Rattle.av_base.specs.Told.{Grows, Rose}
use Rattle.av_base.proofs.ToldLemmas.{append_known-append, append_known-nil}
use Rattle.path_model.specs.declared.key.Key.{Key}
use Rattle.path_model.specs.Routes.{Routes}
use Rattle.path_model.specs.Trail.{Path}
use Rattle.origin_model.specs.declared.origin_state.OriginState.{OriginState}
use Rattle.origin_model.specs.Current.{Parts, IsCurrent}
use Rattle.origin_model.specs.OriginState.{HasState, IsStateOf}
use Rattle.origin_validation.specs.Rows.{AreOriginRows, AreRowsOf}
use Rattle.origin_validation.proofs.RowLemmas.{rows_both, some_rows}
use Rattle.report_text.specs.Laws.{IsAnswerLine}
use Rattle.report_text.specs.Origins.{origin_line, origin_text}
use Rattle.report_text.specs.Reported.{lines_text}
use Rattle.report_text.proofs.AnswerLemmas.{origin_is_one_line}
use Rattle.av_base.specs.declared.stop.Stop.{Stop}
use Rattle.av_base.specs.declared.stop.Stop.TheVariants.{Shelf, Sink}
use Rattle.listings.specs.Listing.{Lists, Pouring, all_of}
use Rattle.listings.specs.EachOrigin.{ListsBefore, ListsFirst, ListsUpToOne, origins_text}
use Rattle.listings.specs.Origins.{origin_row}

text_both : (rows more : List (Key × OriginState)) → origins_text (rows ++ more) ≡ origins_text rows ++ origins_text more
text_both [] more = refl
text_both (row ∷ rows) more =
    ap (λ (t : List ℕ). origin_text row.0 row.1 ++ t) (text_both rows more) ∙ sym (append_assoc (origin_text row.0 row.1) (origins_text rows) (origins_text more))

-- none is listed yet
pub lists_start : (parts : Parts) (routes : List (Key × Path)) (all : Option (List ℕ)) → ListsBefore parts routes routes all all
lists_start parts routes all = record { listed = []; whole = refl; rows = []; are = tt; added = sym (append_known-nil all) }

-- some were listed, and then some more
pub lists_then : (parts : Parts) (routes left more : List (Key × Path)) (old mid new : Option (List ℕ)) → ListsBefore parts routes left old mid → ListsBefore parts left more mid new
    → ListsBefore parts routes more old new
lists_then parts routes left more old mid new one two = record {
  listed = one.listed ++ two.listed;
  whole = one.whole ∙ ap (λ (l : List (Key × Path)). one.listed ++ l) two.whole ∙ sym (append_assoc one.listed two.listed more);
  rows = one.rows ++ two.rows;
  are = rows_both parts one.listed two.listed one.rows two.rows one.are two.are;
  added = two.added ∙ ap (λ (m : Option (List ℕ)). append_known m (origins_text two.rows)) one.added ∙ append_known-append old (origins_text one.rows) (origins_text two.rows)
      ∙ ap (append_known old) (sym (text_both one.rows two.rows));
}

-- one route more is held, and what is held was perhaps written
pub lists_next : (parts : Parts) (old mid new : Option (List ℕ)) (routes left more : List (Key × Path)) (key : Key) (path : Path) (state : OriginState) (written : Option (List ℕ)) (text_old text_new : List ℕ)
    → ListsBefore parts routes left old mid → left ≡ (key, path) ∷ more → IsStateOf parts key path state → mid ≡ append_known written text_old
    → text_new ≡ text_old ++ origin_text key state → new ≡ append_known written text_new → ListsBefore parts routes more old new
lists_next parts old mid new routes left more key path state written text_old text_new so_far is right held added same = lists_then parts routes left more old mid new so_far (record {
  listed = (key, path) ∷ [];
  whole = is;
  rows = (key, state) ∷ [];
  are = (record { key = refl; state = right }, tt);
  added = same ∙ ap (append_known written) added ∙ sym (append_known-append written text_old (origin_text key state))
      ∙ ap (λ (m : Option (List ℕ)). append_known m (origin_text key state)) (sym held) ∙ ap (append_known mid) (sym (append-nil (origin_text key state)));
})

-- ---- up to a route that is told

-- it is held behind those before it, and what is held was perhaps written
pub lists_one : (parts now : Parts) (old mid so new : Option (List ℕ)) (routes middle left : List (Key × Path)) (next : Key × Option ℕ) (state : OriginState) (written : Option (List ℕ)) (text_old text_new : List ℕ)
    → ListsBefore parts routes middle old mid → now ≡ parts → ListsUpToOne next now middle left mid so → HasState (IsCurrent now) next.0.prefix next.1 state → so ≡ append_known written text_old
    → text_new ≡ text_old ++ origin_text next.0 state → new ≡ append_known written text_new → ListsBefore parts routes left old new
lists_one parts now old mid so new routes middle left next state written text_old text_new so_far same up_to right held added is =
    let path = up_to.path in
    let before = subst (λ (p : Parts). ListsBefore p middle ((next.0, path) ∷ left) mid so) same up_to.before in
    let state_is : IsStateOf parts next.0 path state =
    subst (λ (p : Parts). IsStateOf p next.0 path state) same (subst (λ (o : Option ℕ). HasState (IsCurrent now) next.0.prefix o state) up_to.origin right) in
    lists_next parts old so new routes ((next.0, path) ∷ left) left next.0 path state written text_old text_new
    (lists_then parts routes middle ((next.0, path) ∷ left) old mid so so_far before) refl state_is held added is

-- those before it were
pub first_up_to : (parts now : Parts) (old mid new : Option (List ℕ)) (routes middle left : List (Key × Path)) (next : Key × Option ℕ) → ListsBefore parts routes middle old mid → now ≡ parts
    → ListsUpToOne next now middle left mid new → ListsFirst parts routes old new
first_up_to parts now old mid new routes middle left next so_far same up_to =
    let path = up_to.path in
    record {
      rest = (next.0, path) ∷ left;
      before = lists_then parts routes middle ((next.0, path) ∷ left) old mid new so_far (subst (λ (p : Parts). ListsBefore p middle ((next.0, path) ∷ left) mid new) same up_to.before);
    }

-- some were listed, and then the first of the others
pub first_then : (parts now : Parts) (old mid new : Option (List ℕ)) (routes middle : List (Key × Path)) → ListsBefore parts routes middle old mid → now ≡ parts → ListsFirst now middle mid new
    → ListsFirst parts routes old new
first_then parts now old mid new routes middle so_far same first =
    record { rest = first.rest; before = lists_then parts routes middle first.rest old mid new so_far (subst (λ (p : Parts). ListsBefore p middle first.rest mid new) same first.before) }

-- and then all others
pub all_then : (parts now : Parts) (old mid new : Option (List ℕ)) (routes middle : List (Key × Path)) → ListsBefore parts routes middle old mid → now ≡ parts → ListsBefore now middle [] mid new
    → ListsBefore parts routes [] old new
all_then parts now old mid new routes middle so_far same more = lists_then parts routes middle [] old mid new so_far (subst (λ (p : Parts). ListsBefore p middle [] mid new) same more)

-- all are the first
pub first_all : (parts : Parts) (old new : Option (List ℕ)) (routes : List (Key × Path)) → ListsBefore parts routes [] old new → ListsFirst parts routes old new
first_all parts old new routes all = record { rest = []; before = all }

-- ---- the whole list

-- all were listed, or the first ones where that ended early
pub origins_listed : {T : Type 0} (result : Result T Stop) (routes : Routes) (parts now : Parts) (left : List (Key × Path)) (old new : Pouring) → left ≡ fin.entries routes → now ≡ parts
    → OnOk result (ListsBefore now left [] (all_of old) (all_of new)) → ListsFirst now left (all_of old) (all_of new) → (IsErrOf result Sink → 0 < length new.held)
    → (IsErrOf result Sink → Rose old.faults new.faults) → old.faults ≤ new.faults → Grows old.written new.written → (IsErrOf result Shelf → ⊥)
    → Lists (AreOriginRows routes parts) origin_row old new result
origins_listed {T} (Ok x) routes parts now left old new is same before first held cause faults grows no_shelf = record {
  rows = before.rows;
  are = subst (λ (p : Parts). AreRowsOf p (fin.entries routes) before.rows) same
      (subst (λ (l : List (Key × Path)). AreRowsOf now l before.rows) (sym (append-nil before.listed) ∙ sym before.whole ∙ is) before.are);
  listed = record {
    whole = before.added;
    front = record { rest = []; before = record { front = origins_text before.rows; whole = sym (append-nil (origins_text before.rows)); told = before.added } };
    held = held;
    sink_cause = cause;
    sink_faults = faults;
    grows = grows;
    no_shelf = no_shelf;
  };
}
origins_listed {T} (Err e) routes parts now left old new is same all first held cause faults grows no_shelf =
    let before = first.before in
    let more = some_rows now first.rest in
    record {
      rows = before.rows ++ more.0;
      are = subst (λ (p : Parts). AreRowsOf p (fin.entries routes) (before.rows ++ more.0)) same
          (subst (λ (l : List (Key × Path)). AreRowsOf now l (before.rows ++ more.0)) (sym before.whole ∙ is) (rows_both now before.listed first.rest before.rows more.0 before.are more.1));
      listed = record {
        whole = tt;
        front = record { rest = origins_text more.0; before = record { front = origins_text before.rows; whole = text_both before.rows more.0; told = before.added } };
        held = held;
        sink_cause = cause;
        sink_faults = faults;
        grows = grows;
        no_shelf = no_shelf;
      };
    }

-- ---- lines

abbrev pub line_of : Key × OriginState → List ℕ
line_of row = origin_line row.0 row.1

pub rows_are_lines : (rows : List (Key × OriginState)) → origins_text rows ≡ lines_text (map line_of rows)
rows_are_lines [] = refl
rows_are_lines (row ∷ rows) = ap (λ (t : List ℕ). origin_text row.0 row.1 ++ t) (rows_are_lines rows)

pub rows_answer : (rows : List (Key × OriginState)) → All IsAnswerLine (map line_of rows)
rows_answer rows = All-map IsAnswerLine line_of rows (λ k row within. origin_is_one_line _ _)
