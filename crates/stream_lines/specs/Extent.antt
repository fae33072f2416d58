-- How far a line takes a dump: so many units, or up to a moment where it has one.
use Rattle.std.specs.Prelude.{ℕ, List}
use Rattle.std.specs.declared.option.Option.{Option}
use Rattle.std.specs.declared.option.Option.TheVariants.{Some, None}
use Rattle.av_base.specs.Files.{Files}
use Rattle.analyser.specs.declared.progress.Progress.{Progress}
use Rattle.stream_lines.specs.Held.{HeldDump}
use Rattle.stream_lines.specs.Streams.{Asking}
use Rattle.stream_lines.specs.Taking.{TicksWithinUnits, TookSome, TookUnits}
use Rattle.stream_lines.specs.TakingUntil.{TicksWithinUpTo, TookSomeUpTo, TookUpTo}

-- what the line takes was taken
abbrev pub Took : Asking → Option ℕ → ℕ → HeldDump → HeldDump → Progress → Option Files → Option Files
    → Option (List ℕ) → Option (List ℕ) → Progress → Type 0
Took asking None count dump_old dump_new progress files_old files_new all_old all_new next =
    TookUnits asking count dump_old dump_new progress files_old files_new all_old all_new next
Took asking (Some moment) count dump_old dump_new progress files_old files_new all_old all_new next =
    TookUpTo asking (Some moment) count dump_old dump_new progress files_old files_new all_old all_new next

-- of what the line takes some first units were taken, perhaps none and perhaps all
abbrev pub TookSomeOf : Asking → Option ℕ → ℕ → HeldDump → Progress → Option Files → Option (List ℕ) → Option (List ℕ) → ℕ → ℕ → Type 0
TookSomeOf asking None count dump progress files all_old all_new before after = TookSome asking count dump progress files all_old all_new before after
TookSomeOf asking (Some moment) count dump progress files all_old all_new before after =
    TookSomeUpTo asking (Some moment) count dump progress files all_old all_new before after

-- no more steps were taken than what the line takes may cost
abbrev pub TicksWithinTaken : Asking → Option ℕ → ℕ → HeldDump → Progress → Option Files → ℕ → ℕ → Type 0
TicksWithinTaken asking None count dump progress files before after = TicksWithinUnits asking count dump progress files before after
TicksWithinTaken asking (Some moment) count dump progress files before after = TicksWithinUpTo asking (Some moment) count dump progress files before after
