-- How the units that a call took stand for the definition's.
use Rattle.std.specs.Prelude.{◌≡◌, ℕ, ◌+◌, ◌≤◌, List}
use Rattle.std.specs.Io.KnownBytes.{append_known}
use Rattle.std.specs.declared.option.Option.{Option}
use Rattle.av_base.specs.Files.{Files}
use Rattle.stream_lines.specs.declared.taking.Asked.{Asked}
use Rattle.analyser.specs.declared.progress.Progress.{Progress}
use Rattle.stream_lines.specs.Held.{HeldDump}
use Rattle.stream_lines.specs.Holding.{HoldsDump}
use Rattle.stream_lines.specs.Streams.{Asking, Taking, TakesUnits}

-- the line that takes, and the dump's name
abbrev pub asking_of : Asked → Asking
asking_of asked = record { line = asked.line; name = asked.name.now }

-- what is held of the dump, the analyser and the counts stand for this
pub record StandsAt (files : Option Files) (dump : HeldDump) (progress : Progress) (new : Taking) : Type 0 where
  pub holds : HoldsDump files dump new.dump
  pub state : progress.analyser ≡ new.state
  pub marks : progress.marks ≡ new.marks
  pub passed : progress.passed ≡ new.passed
  pub refused : progress.refused ≡ new.refused

-- so many units were taken; `all` is what was written and then what is held
pub record TookMany (asking : Asking) (count : ℕ) (old new : Taking) (all_old all_new : Option (List ℕ)) : Type 0 where
  pub text : List ℕ
  pub takes : TakesUnits asking count old text new
  pub added : all_new ≡ append_known all_old text

-- So many units were taken, or all that came until the dump was over, from whatever the open dump, the analyser and the counts stood
-- for; they stand for what the units left.
abbrev pub TookUnits : Asking → ℕ → HeldDump → HeldDump → Progress → Option Files → Option Files
    → Option (List ℕ) → Option (List ℕ) → Progress → Type 0
TookUnits asking count dump_old dump_new progress files_old files_new all_old all_new next =
    (old : Taking) → StandsAt files_old dump_old progress old
    → (new : Taking) × StandsAt files_new dump_new next new × TookMany asking count old new all_old all_new

-- Some first of these units were taken, perhaps none and perhaps all, and their text was added. It came to these, or to one more, and took no
-- more steps than the units that it came to may cost.
pub record TookFirst (asking : Asking) (count : ℕ) (old : Taking) (all_old all_new : Option (List ℕ)) (before after : ℕ) : Type 0 where
  pub first : ℕ
  pub new : Taking
  pub took : TookMany asking first old new all_old all_new
  pub reached : ℕ
  pub taken : first ≤ reached
  pub one_more : reached ≤ first + 1
  pub within : reached ≤ count
  pub text : List ℕ
  pub end : Taking
  pub comes : TakesUnits asking reached old text end
  pub ticked : after + old.judgements ≤ before + end.judgements

abbrev pub TookSome : Asking → ℕ → HeldDump → Progress → Option Files → Option (List ℕ) → Option (List ℕ) → ℕ → ℕ → Type 0
TookSome asking count dump progress files all_old all_new before after =
    (old : Taking) → StandsAt files dump progress old → TookFirst asking count old all_old all_new before after

-- no more steps were taken than so many units may cost, or all that come until the dump is over
pub record TicksWithinUnits (asking : Asking) (count : ℕ) (dump : HeldDump) (progress : Progress) (files : Option Files) (before after : ℕ) : Type 0 where
  pub within : (old new : Taking) (text : List ℕ) → StandsAt files dump progress old → TakesUnits asking count old text new
      → after + old.judgements ≤ before + new.judgements

-- the counts grew by at most so many, and the payloads of origin validation stayed
pub record GrewBy (count : ℕ) (dump_old dump_new : HeldDump) (progress next : Progress) : Type 0 where
  pub taken : dump_new.taken ≤ dump_old.taken + count
  pub passed : next.passed ≤ progress.passed + count
  pub refused : next.refused ≤ progress.refused + count
  pub origins : next.origins ≡ progress.origins
