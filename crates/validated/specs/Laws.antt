-- The law of a validator's files, the contract of a public function of the module `laws`.
use Rattle.std.specs.Prelude.{ℕ, List}
use Rattle.av_base.specs.One.{HasOne}
use Rattle.validated.specs.Reading.{IsReading}

-- any bytes say one thing, or are refused for one cause
abbrev pub EachFileHasOneReading : Type 0
EachFileHasOneReading = (bytes : List ℕ) → HasOne (IsReading bytes)
