-- How the units that a call took, up to a moment or not, stand for the definition's.
use Rattle.std.specs.Prelude.{◌≡◌, ℕ, ◌+◌, ◌≤◌, List}
use Rattle.std.specs.Io.KnownBytes.{append_known}
use Rattle.std.specs.declared.option.Option.{Option}
use Rattle.av_base.specs.Files.{Files}
use Rattle.analyser.specs.declared.progress.Progress.{Progress}
use Rattle.stream_lines.specs.Held.{HeldDump}
use Rattle.stream_lines.specs.Streams.{Asking, Taking}
use Rattle.stream_lines.specs.Taking.{StandsAt, TookFirst}
use Rattle.stream_lines.specs.Until.{TakesCount, TakesUpTo}

-- the units up to the moment, if there is one, were taken; `all` is what was written and then what is held
pub record TookAllUpTo (asking : Asking) (until : Option ℕ) (limit : ℕ) (old new : Taking) (all_old all_new : Option (List ℕ)) : Type 0 where
  pub text : List ℕ
  pub takes : TakesUpTo asking until limit old text new
  pub added : all_new ≡ append_known all_old text

-- The units up to the moment were taken from whatever the open dump, the analyser and the counts stood for; they stand for what these left.
abbrev pub TookUpTo : Asking → Option ℕ → ℕ → HeldDump → HeldDump → Progress → Option Files → Option Files
    → Option (List ℕ) → Option (List ℕ) → Progress → Type 0
TookUpTo asking until limit dump_old dump_new progress files_old files_new all_old all_new next =
    (old : Taking) → StandsAt files_old dump_old progress old
    → (new : Taking) × StandsAt files_new dump_new next new × TookAllUpTo asking until limit old new all_old all_new

-- Up to the moment so many units come, and of these some first were taken, perhaps none and perhaps all.
pub record TookFirstUpTo (asking : Asking) (until : Option ℕ) (limit : ℕ) (old : Taking) (all_old all_new : Option (List ℕ)) (before after : ℕ) : Type 0 where
  pub count : ℕ
  pub text : List ℕ
  pub new : Taking
  pub counted : TakesCount asking until limit count old text new
  pub some : TookFirst asking count old all_old all_new before after

abbrev pub TookSomeUpTo : Asking → Option ℕ → ℕ → HeldDump → Progress → Option Files → Option (List ℕ) → Option (List ℕ) → ℕ → ℕ → Type 0
TookSomeUpTo asking until limit dump progress files all_old all_new before after =
    (old : Taking) → StandsAt files dump progress old → TookFirstUpTo asking until limit old all_old all_new before after

-- no more steps were taken than the units up to the moment may cost
pub record TicksWithinUpTo (asking : Asking) (until : Option ℕ) (limit : ℕ) (dump : HeldDump) (progress : Progress) (files : Option Files) (before after : ℕ) : Type 0 where
  pub within : (old new : Taking) (text : List ℕ) → StandsAt files dump progress old → TakesUpTo asking until limit old text new
      → after + old.judgements ≤ before + new.judgements
