-- Laws of the workload and of its text, each the contract of a public function of the module `laws`.
use Rattle.std.specs.Prelude.{ℕ}
use Rattle.av_base.specs.One.{HasOne, HasOnePair}
use Rattle.stated_workload.specs.Text.{IsTextOf}
use Rattle.stated_workload.specs.Workload.{IsWorkload}

-- each seed has exactly one workload
abbrev pub EachSeedHasOneWorkload : Type 0
EachSeedHasOneWorkload = (seed : ℕ) → HasOnePair (IsWorkload seed)

-- each seed has exactly one text
abbrev pub EachSeedHasOneText : Type 0
EachSeedHasOneText = (seed : ℕ) → HasOne (IsTextOf seed)
