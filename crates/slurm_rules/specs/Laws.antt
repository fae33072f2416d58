-- The law of SLURM files, the contract of a public function of the module `laws`.
use Rattle.std.specs.Prelude.{ℕ, List}
use Rattle.av_base.specs.One.{HasOne}
use Rattle.slurm_rules.specs.Reading.{IsReading}

-- any bytes say one thing, or are refused for one cause
abbrev pub EachFileHasOneReading : Type 0
EachFileHasOneReading = (bytes : List ℕ) → HasOne (IsReading bytes)
