-- Laws of the definitions, each the contract of a public function of the module `laws`.
use Rattle.std.specs.Prelude.{ℕ, List}
use Rattle.av_base.specs.One.{HasOne}
use Rattle.script_lines.specs.Grammar.{IsReading}

-- a line is one command, or refused for one cause, and nothing else
abbrev pub EachLineHasOneReading : Type 0
EachLineHasOneReading = (line : List ℕ) → HasOne (IsReading line)
