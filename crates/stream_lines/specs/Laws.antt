-- Laws of the definitions, each the contract of a public function of the module `laws`.
use Rattle.std.specs.Prelude.{◌≡◌, ℕ, ◌+◌, List, ◌++◌}
use Rattle.av_base.specs.One.{HasOnePair}
use Rattle.av_text.specs.Spellings.{IsInLine}
use Rattle.stream_lines.specs.Counts.{refusals_in}
use Rattle.stream_lines.specs.Streams.{Asking, Taking, TakesUnits}
use Rattle.stream_lines.specs.Until.{TakesUntil}

-- so many units of a dump have one text, and leave one state
abbrev pub UnitsHaveOneOutcome : Type 0
UnitsHaveOneOutcome = (asking : Asking) (count : ℕ) (old : Taking) → HasOnePair (TakesUnits asking count old)

-- the units up to a moment have one text, and leave one state
abbrev pub UntilHasOneOutcome : Type 0
UntilHasOneOutcome = (asking : Asking) (moment limit : ℕ) (old : Taking) → HasOnePair (TakesUntil asking moment limit old)

-- Where the dump's name has no line feed, as many refusals are counted as the text reports, whatever text comes behind.
abbrev pub RefusedUnitsAreCounted : Type 0
RefusedUnitsAreCounted = (asking : Asking) (count : ℕ) (old new : Taking) (text rest : List ℕ) → IsInLine asking.name
    → TakesUnits asking count old text new → new.refused + refusals_in rest ≡ old.refused + refusals_in (text ++ rest)
