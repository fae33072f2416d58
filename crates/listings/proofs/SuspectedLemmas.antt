-- Suspects that are written line by line, that each state has one list of them, and that none reads as a refusal.
use Rattle.std.proofs.Common.{◌≡◌, ℕ, List, [], ◌∷◌, ◌++◌, map, flat_map, Ok, Err, refl, ap}
use Rattle.std.specs.List.{All, concat}
use Rattle.std.specs.declared.result.Result.{Result}
use Rattle.std.proofs.lemmas.List.Elements.{All-map}
use Rattle.report_text.specs.Laws.{IsAnswerLine}
use Rattle.report_text.specs.Reported.{lines_text}
use Rattle.report_text.specs.Suspects.{suspect_line}
use Rattle.report_text.proofs.AnswerLemmas.{suspect_is_one_line}
use Rattle.rib_store.specs.State.{State}
use Rattle.valleys.specs.declared.valley.Valley.{Valley}
use Rattle.listings.specs.declared.tally.Tally.{Tally}
use Rattle.listings.specs.Suspects.{AreSuspects}
pub use Rattle.listings.proofs.SuspectLemmas.{one_list_of_suspects, some_suspects}
use Rattle.av_base.specs.declared.stop.Stop.{Stop}
use Rattle.av_base.specs.declared.stop.Stop.TheVariants.{NoMemory}
use Rattle.listings.proofs.ListingLemmas as listing
use Rattle.listings.specs.Listing.{Listed, Lists, Pouring}
use Rattle.listings.specs.Suspected.{suspect_of, suspect_row}

-- ---- line by line

pub suspects_listed : {T : Type 0} (state : State) (rows : List (Valley × Tally)) (old new : Pouring) (result : Result T Stop) → AreSuspects state rows
    → Listed (concat (map suspect_row rows)) old new result → Lists (AreSuspects state) suspect_row old new result
suspects_listed state = listing.all_listed (AreSuspects state) suspect_row

-- memory ran out before the first line
pub none_listed : {T : Type 0} (state : State) (old : Pouring) (result : Result T Stop) → result ≡ Err NoMemory → Lists (AreSuspects state) suspect_row old old result
none_listed state old result = let some = some_suspects state in listing.none_listed (AreSuspects state) suspect_row some.0 old result some.1

-- ---- lines

abbrev pub suspect_line_of : Valley × Tally → List ℕ
suspect_line_of row = suspect_line (suspect_of row)

pub suspects_are_lines : (rows : List (Valley × Tally)) → flat_map suspect_row rows ≡ lines_text (map suspect_line_of rows)
suspects_are_lines [] = refl
suspects_are_lines (row ∷ rows) = ap (λ (t : List ℕ). suspect_row row ++ t) (suspects_are_lines rows)

pub suspects_answer : (rows : List (Valley × Tally)) → All IsAnswerLine (map suspect_line_of rows)
suspects_answer rows = All-map IsAnswerLine suspect_line_of rows (λ k row within. suspect_is_one_line _)
