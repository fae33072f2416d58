-- The lines of a refusal and of a feed's end are each one line that begins with `! `.
use Rattle.std.proofs.Common.{◌≢◌, ℕ, List, ◌∷◌, ◌++◌, codes, decimal, refl}
use Rattle.std.proofs.lemmas.List.Elements.{All-nil}
use Rattle.av_text.specs.Spellings.{IsInLine}
use Rattle.report_text.specs.declared.feed.FeedEnd.{FeedEnd}
use Rattle.report_text.specs.declared.feed.FeedEnd.TheVariants.{Unreachable, Lost, Short}
use Rattle.report_text.specs.Feeds.{end_word, feed_line}
use Rattle.report_text.specs.declared.cause.Cause.{Cause}
use Rattle.report_text.specs.Causes.{number_of, word_of}
use Rattle.report_text.specs.Refusals.{AnyPlace, of_line, of_unit, place_text, refusal_line}
use Rattle.report_text.specs.Laws.{IsPlaceInLine, IsRefusalLine}
use Rattle.report_text.proofs.CauseLemmas.{word_passes}
use Rattle.report_text.proofs.InLineLemmas.{clean, both, number}

word_of-in_line : (cause : Cause) → IsInLine (word_of cause)
word_of-in_line cause = clean (word_of cause) (word_passes cause).0

place-in_line : (place : AnyPlace) → IsPlaceInLine place → IsInLine (place_text place)
place-in_line of_line in_line = All-nil (λ byte. byte ≢ 10)
place-in_line (of_unit name unit) in_line =
    both (codes " ") (name ++ codes " unit " ++ decimal unit) (clean (codes " ") refl)
    (both (name ++ codes " unit ") (decimal unit) (both name (codes " unit ") in_line (clean (codes " unit ") refl)) (number unit))

-- the name of SLURM files
pub slurm-in_line : IsInLine (codes "slurm")
slurm-in_line = clean (codes "slurm") refl

-- the name of routers that are served
pub serve-in_line : IsInLine (codes "serve")
serve-in_line = clean (codes "serve") refl

-- one line that begins with `! `
pub refusal_is_one_line : (line : ℕ) (place : AnyPlace) (cause : Cause) → IsPlaceInLine place → IsRefusalLine (refusal_line line place cause)
refusal_is_one_line line place cause in_line =
    record {
      in_line =
          both (codes "! line " ++ decimal line ++ place_text place ++ codes " cause " ++ decimal (number_of cause)) (32 ∷ word_of cause)
          (both (codes "! line " ++ decimal line ++ place_text place ++ codes " cause ") (decimal (number_of cause))
          (both (codes "! line " ++ decimal line ++ place_text place) (codes " cause ")
          (both (codes "! line " ++ decimal line) (place_text place)
          (both (codes "! line ") (decimal line) (clean (codes "! line ") refl) (number line))
          (place-in_line place in_line))
          (clean (codes " cause ") refl))
          (number (number_of cause)))
          (both (codes " ") (word_of cause) (clean (codes " ") refl) (word_of-in_line cause));
      marked = refl;
    }

end_word-in_line : (end : FeedEnd) → IsInLine (end_word end)
end_word-in_line Unreachable = clean (codes "unreachable") refl
end_word-in_line Lost = clean (codes "lost") refl
end_word-in_line Short = clean (codes "short") refl

pub feed_end_is_one_line : (line : ℕ) (name : List ℕ) (end : FeedEnd) → IsInLine name → IsRefusalLine (feed_line line name end)
feed_end_is_one_line line name end in_line =
    record {
      in_line =
          both (codes "! line " ++ decimal line ++ codes " " ++ name ++ codes " ") (end_word end)
          (both (codes "! line " ++ decimal line ++ codes " " ++ name) (codes " ")
          (both (codes "! line " ++ decimal line ++ codes " ") name
          (both (codes "! line " ++ decimal line) (codes " ")
          (both (codes "! line ") (decimal line) (clean (codes "! line ") refl) (number line))
          (clean (codes " ") refl))
          in_line)
          (clean (codes " ") refl))
          (end_word-in_line end);
      marked = refl;
    }
