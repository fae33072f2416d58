-- The line that reports a refusal.
use Rattle.std.specs.Prelude.{ℕ, List, [], ◌∷◌, ◌++◌, codes, decimal}
use Rattle.report_text.specs.declared.cause.Cause.{Cause}
use Rattle.report_text.specs.Causes.{number_of, word_of}

-- where what is refused stands: the script's line itself, or the unit of this number, from 1, of what has this name
pub data AnyPlace : Type 0 where
  of_line : AnyPlace
  of_unit : List ℕ → ℕ → AnyPlace

-- the words of a place
abbrev pub place_text : AnyPlace → List ℕ
place_text of_line = []
place_text (of_unit name unit) = 32 ∷ name ++ codes " unit " ++ decimal unit

-- the line that reports a refusal in a line of the script, without its line feed; lines are numbered from 1
abbrev pub refusal_line : ℕ → AnyPlace → Cause → List ℕ
refusal_line line place cause =
    codes "! line " ++ decimal line ++ place_text place ++ codes " cause " ++ decimal (number_of cause) ++ 32 ∷ word_of cause

-- and with it
abbrev pub refusal_text : ℕ → AnyPlace → Cause → List ℕ
refusal_text line place cause = refusal_line line place cause ++ 10 ∷ []
