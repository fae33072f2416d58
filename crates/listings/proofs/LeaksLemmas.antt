-- Leaks that are written line by line, that there is one list of them, and that none reads as a refusal.
use Rattle.std.proofs.Common.{◌≡◌, ℕ, not, List, [], ◌∷◌, ◌++◌, map, filter, flat_map, refl, ap, subst, ◌∙◌}
use Rattle.std.specs.FinMap as fin
use Rattle.std.specs.List.{All, AllZip, concat}
use Rattle.std.specs.declared.result.Result.{Result}
use Rattle.std.proofs.lemmas.List.Elements.{All-map}
use Rattle.av_base.specs.One.{HasOne}
use Rattle.path_model.specs.declared.key.Key.{Key}
use Rattle.path_model.specs.declared.otc.Otc.{Otc}
use Rattle.path_model.specs.Roles.{Relations, role_of}
use Rattle.path_model.specs.declared.leak.Leak.{Leak}
use Rattle.path_model.specs.declared.leak.Leak.TheVariants.{Clean, Customer, RsClient, Peer, Malformed}
use Rattle.otc_check.specs.Marks.{Marked}
use Rattle.otc_check.proofs.LeakLemmas.{is_leak_of, only_leak_of}
use Rattle.report_text.specs.Laws.{IsAnswerLine}
use Rattle.report_text.specs.Leaks.{leak_line, leak_text}
use Rattle.report_text.specs.Reported.{lines_text}
use Rattle.report_text.proofs.AnswerLemmas.{leak_is_one_line}
use Rattle.listings.specs.EachLeak.{found_by, leak_or_nothing, leaks_of, piece_of}
use Rattle.listings.specs.Leaks.{AreLeaks, IsFound, is_clean, leak_row}
use Rattle.listings.specs.Listing.{Listed, Lists, Pouring}
use Rattle.av_base.specs.declared.stop.Stop.{Stop}

-- ---- the list of all

all_found : (relations : Relations) (marks : List (Key × Otc)) → AllZip (IsFound relations) marks (map (found_by relations) marks)
all_found relations [] = tt
all_found relations (mark ∷ marks) = (record { key = refl; leak = is_leak_of (role_of relations mark.0.peer.asn) mark.0.peer.asn mark.1 }, all_found relations marks)

only_found : (relations : Relations) (marks : List (Key × Otc)) (rows : List (Key × Leak)) → AllZip (IsFound relations) marks rows → rows ≡ map (found_by relations) marks
only_found relations [] [] are = refl
only_found relations [] (row ∷ rows) are = absurd are
only_found relations (mark ∷ marks) [] are = absurd are
only_found relations (mark ∷ marks) (row ∷ rows) are =
    let leak = only_leak_of (role_of relations mark.0.peer.asn) mark.0.peer.asn mark.1 row.1 are.0.leak in
    let same : row ≡ found_by relations mark = (λ i. (are.0.key i, leak i)) in
    (λ i. same i ∷ only_found relations marks rows are.1 i)

pub are_leaks : (relations : Relations) (marks : Marked) → AreLeaks relations marks (leaks_of relations (fin.entries marks))
are_leaks relations marks = record { all = map (found_by relations) (fin.entries marks); are = all_found relations (fin.entries marks); leaks = refl }

pub one_list_of_leaks : (relations : Relations) (marks : Marked) → HasOne (AreLeaks relations marks)
one_list_of_leaks relations marks = record {
  one = leaks_of relations (fin.entries marks);
  is = are_leaks relations marks;
  only = λ rows are. are.leaks ∙ ap (filter (λ row. not (is_clean row.1))) (only_found relations (fin.entries marks) are.all are.are);
}

-- ---- line by line

-- the line of one, or nothing, and then the others
one_more : (row : Key × Leak) (rows : List (Key × Leak)) (others : List ℕ) → others ≡ flat_map leak_row (filter (λ row. not (is_clean row.1)) rows)
    → leak_or_nothing row ++ others ≡ flat_map leak_row (filter (λ row. not (is_clean row.1)) (row ∷ rows))
one_more (key, Clean) rows others is = is
one_more (key, Customer asn) rows others is = ap (λ (t : List ℕ). leak_text key (Customer asn) ++ t) is
one_more (key, RsClient asn) rows others is = ap (λ (t : List ℕ). leak_text key (RsClient asn) ++ t) is
one_more (key, Peer asn) rows others is = ap (λ (t : List ℕ). leak_text key (Peer asn) ++ t) is
one_more (key, Malformed) rows others is = ap (λ (t : List ℕ). leak_text key Malformed ++ t) is

-- what the steps of marks add are the lines of their leaks
pieces_are : (relations : Relations) (marks : List (Key × Otc)) → concat (map (piece_of relations) marks) ≡ flat_map leak_row (leaks_of relations marks)
pieces_are relations [] = refl
pieces_are relations (mark ∷ marks) = one_more (found_by relations mark) (map (found_by relations) marks) _ (pieces_are relations marks)

pub leaks_listed : {T : Type 0} (relations : Relations) (marks : Marked) (old new : Pouring) (result : Result T Stop) → Listed (concat (map (piece_of relations) (fin.entries marks))) old new result
    → Lists (AreLeaks relations marks) leak_row old new result
leaks_listed {T} relations marks old new result listed = record {
  rows = leaks_of relations (fin.entries marks);
  are = are_leaks relations marks;
  listed = subst (λ (t : List ℕ). Listed t old new result) (pieces_are relations (fin.entries marks)) listed;
}

-- ---- lines

abbrev pub leak_line_of : Key × Leak → List ℕ
leak_line_of row = leak_line row.0 row.1

pub leaks_are_lines : (rows : List (Key × Leak)) → flat_map leak_row rows ≡ lines_text (map leak_line_of rows)
leaks_are_lines [] = refl
leaks_are_lines (row ∷ rows) = ap (λ (t : List ℕ). leak_text row.0 row.1 ++ t) (leaks_are_lines rows)

pub leaks_answer : (rows : List (Key × Leak)) → All IsAnswerLine (map leak_line_of rows)
leaks_answer rows = All-map IsAnswerLine leak_line_of rows (λ k row within. leak_is_one_line _ _)
