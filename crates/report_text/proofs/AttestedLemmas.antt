-- The lines of hops, of assertions and of where a row comes from are lines, and none of them begins with `! `.
use Rattle.std.proofs.Common.{ℕ, Bool, true, false, List, [], ◌++◌, codes, decimal, refl}
use Rattle.std.specs.declared.option.Option.{Option}
use Rattle.std.specs.declared.option.Option.TheVariants.{Some, None}
use Rattle.path_model.specs.Name.{IsName}
use Rattle.av_text.specs.Spellings.{IsInLine}
use Rattle.av_text.proofs.AnySpellingLemmas.{names_in_line}
use Rattle.report_text.specs.declared.attested.LocalPart.{LocalPart}
use Rattle.report_text.specs.declared.attested.LocalPart.TheVariants.{Slurm, Hand}
use Rattle.report_text.specs.declared.hop.Hop.{Hop}
use Rattle.report_text.specs.Assertions.{assertion_line, named}
use Rattle.report_text.specs.Attested.{asserted_line, current_line, ended_text, filtered_line, source_line, until_text}
use Rattle.report_text.specs.Details.{ases_text}
use Rattle.report_text.specs.Hops.{hop_line, joined_part}
use Rattle.report_text.specs.AuthorityText.{attested_part}
use Rattle.report_text.specs.Laws.{IsAnswerLine}
use Rattle.report_text.proofs.AnswerLemmas.{ases_in_line, attested_in_line}
use Rattle.report_text.proofs.InLineLemmas.{clean, both, number}

-- ---- hops

joined_in_line : (hop : Hop) → IsInLine (joined_part hop)
joined_in_line hop =
    let first = codes "hop " ++ decimal hop.number in
    let second = first ++ codes " " ++ decimal hop.from in
    both (second ++ codes " ") (decimal hop.to)
    (both second (codes " ")
    (both (first ++ codes " ") (decimal hop.from)
    (both first (codes " ")
    (both (codes "hop ") (decimal hop.number) (clean (codes "hop ") refl) (number hop.number))
    (clean (codes " ") refl)) (number hop.from))
    (clean (codes " ") refl)) (number hop.to)

pub hop_is_one_line : (hop : Hop) → IsAnswerLine (hop_line hop)
hop_is_one_line hop = record { in_line = both (joined_part hop) (attested_part hop.climb hop.descend) (joined_in_line hop) (attested_in_line hop.climb hop.descend); unmarked = refl }

-- ---- assertions

pub assertion_is_one_line : (customer : ℕ) (providers : List ℕ) → IsAnswerLine (assertion_line customer providers)
assertion_is_one_line customer providers = record {
  in_line = both (codes "assert " ++ decimal customer) (ases_text (named providers))
      (both (codes "assert ") (decimal customer) (clean (codes "assert ") refl) (number customer)) (ases_in_line (named providers));
  unmarked = refl;
}

-- ---- where a row comes from

until_in_line : (until : Option ℕ) → IsInLine (until_text until)
until_in_line None = clean [] refl
until_in_line (Some moment) = both (codes " until ") (decimal moment) (clean (codes " until ") refl) (number moment)

ended_in_line : (ended : Bool) → IsInLine (ended_text ended)
ended_in_line false = clean [] refl
ended_in_line true = clean (codes " ended") refl

pub source_is_one_line : (name : List ℕ) (until : Option ℕ) (providers : List ℕ) (ended : Bool) → IsName name → IsAnswerLine (source_line name until providers ended)
source_is_one_line name until providers ended is =
    let source = codes "source " ++ name in
    record {
      in_line = both (source ++ until_text until ++ ases_text (named providers)) (ended_text ended)
          (both (source ++ until_text until) (ases_text (named providers))
          (both source (until_text until)
          (both (codes "source ") name (clean (codes "source ") refl) (names_in_line name is))
          (until_in_line until)) (ases_in_line (named providers))) (ended_in_line ended);
      unmarked = refl;
    }

pub asserted_is_one_line : (part : LocalPart) (providers : List ℕ) → IsAnswerLine (asserted_line part providers)
asserted_is_one_line Slurm providers = record { in_line = both (codes "slurm") (ases_text (named providers)) (clean (codes "slurm") refl) (ases_in_line (named providers)); unmarked = refl }
asserted_is_one_line Hand providers = record { in_line = both (codes "hand") (ases_text (named providers)) (clean (codes "hand") refl) (ases_in_line (named providers)); unmarked = refl }

pub filtered_is_one_line : (part : LocalPart) → IsAnswerLine (filtered_line part)
filtered_is_one_line Slurm = record { in_line = clean (codes "filtered slurm") refl; unmarked = refl }
filtered_is_one_line Hand = record { in_line = clean (codes "filtered hand") refl; unmarked = refl }

pub current_is_one_line : (row : Option (List ℕ)) → IsAnswerLine (current_line row)
current_is_one_line None = record { in_line = clean (codes "row none") refl; unmarked = refl }
current_is_one_line (Some row) = record { in_line = both (codes "row") (ases_text (named row)) (clean (codes "row") refl) (ases_in_line (named row)); unmarked = refl }
