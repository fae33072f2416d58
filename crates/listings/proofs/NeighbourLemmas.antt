-- The ASes beside an AS that are listed line by line, and that none reads as a refusal.
use Rattle.std.proofs.Common.{◌≡◌, ℕ, List, [], ◌∷◌, ◌++◌, map, flat_map, Ok, Err, refl, ap, arith}
use Rattle.std.specs.List.{All}
use Rattle.std.specs.declared.result.Result.{Result}
use Rattle.std.proofs.lemmas.List.Elements.{All-map}
use Rattle.av_base.specs.declared.stop.Stop.{Stop}
use Rattle.av_base.specs.declared.stop.Stop.TheVariants.{NoMemory}
use Rattle.av_base.proofs.PouringLemmas.{Grows-refl}
use Rattle.av_base.proofs.ToldLemmas.{AppendsFront-start}
use Rattle.report_text.specs.declared.neighbour.Neighbour.{Neighbour}
use Rattle.report_text.specs.Laws.{IsAnswerLine}
use Rattle.report_text.specs.Neighbours.{neighbour_line}
use Rattle.report_text.specs.Reported.{lines_text}
use Rattle.report_text.proofs.AnswerLemmas.{neighbour_is_one_line}
use Rattle.rib_store.specs.State.{State}
use Rattle.listings.specs.Listing.{Lists, Pouring, all_of}
use Rattle.listings.specs.Neighbours.{AreNeighboursOf, neighbour_row}
pub use Rattle.listings.proofs.BesideLemmas.{one_list_of_neighbours}

-- memory ran out before the first line
pub none_listed : {T : Type 0} (state : State) (asn : ℕ) (old : Pouring) (result : Result T Stop) → result ≡ Err NoMemory
    → Lists (AreNeighboursOf state asn) neighbour_row old old result
none_listed {T} state asn old (Ok x) is = let no : ⊥ = cc in absurd no
none_listed {T} state asn old (Err stop) is =
    let one = one_list_of_neighbours state asn in
    let same : stop ≡ NoMemory = cc in
    record {
      rows = one.one;
      are = one.is;
      listed = record {
        whole = tt;
        front = AppendsFront-start (all_of old) (flat_map neighbour_row one.one);
        held = λ sink. let no : ⊥ = cc in absurd no;
        sink_cause = λ sink. let no : ⊥ = cc in absurd no;
        sink_faults = omega arith;
        grows = Grows-refl old.written;
        no_shelf = λ shelf. cc;
      };
    }

-- ---- lines

pub neighbours_are_lines : (rows : List Neighbour) → flat_map neighbour_row rows ≡ lines_text (map neighbour_line rows)
neighbours_are_lines [] = refl
neighbours_are_lines (row ∷ rows) = ap (λ (t : List ℕ). neighbour_row row ++ t) (neighbours_are_lines rows)

pub neighbours_answer : (rows : List Neighbour) → All IsAnswerLine (map neighbour_line rows)
neighbours_answer rows = All-map IsAnswerLine neighbour_line rows (λ k row within. neighbour_is_one_line _)
