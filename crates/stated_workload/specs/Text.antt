-- The text of a seed: what the words `demo N` write.
use Rattle.std.specs.Prelude.{◌≡◌, ℕ, List, ◌++◌, length, IfSome}
use Rattle.std.specs.Io.KnownBytes.{append_known}
use Rattle.std.specs.declared.option.Option.{Option}
use Rattle.av_base.specs.Told.{AppendsFront, AppendsPart}
use Rattle.report_text.specs.declared.summary.Summary.{Summary}
use Rattle.report_text.specs.Change.{changed_text}
use Rattle.report_text.specs.Summary.{summary_text}
use Rattle.rib_store.specs.declared.journal.ChangedKey.{ChangedKey}
use Rattle.rib_store.specs.Changes.{AreChanges, IsMarked}
use Rattle.rib_store.specs.State.{State, no_state}
use Rattle.analyser.specs.declared.event.Event.{Event}
use Rattle.stated_workload.specs.Happening.{HappenAll}
use Rattle.listings.specs.Summary.{IsSummary}
use Rattle.stated_workload.specs.Workload.{IsWorkload}

-- From the empty analysis the events that load happen, the state is summed up, and its verdicts are marked. Then the events that amend
-- happen, the state is summed up again, and the changes since the marking are counted. No unit is passed and no line refused.
pub record IsTextOf (seed : ℕ) (text : List ℕ) : Type 0 where
  pub loading : List Event
  pub amending : List Event
  pub workload : IsWorkload seed loading amending
  pub loaded : State
  pub loads : HappenAll no_state loading loaded
  pub first : Summary
  pub first_is : IsSummary loaded 0 0 first
  pub marked : State
  pub marks : IsMarked loaded marked
  pub amended : State
  pub amends : HappenAll marked amending amended
  pub last : Summary
  pub last_is : IsSummary amended 0 0 last
  pub changes : List ChangedKey
  pub changes_are : AreChanges amended changes
  pub is : text ≡ summary_text first ++ summary_text last ++ changed_text (length changes)

-- ---- what was written, where the sink tells it

-- all of it
pub record WritesText (seed : ℕ) (old new : Option (List ℕ)) : Type 0 where
  pub text : List ℕ
  pub is : IsTextOf seed text
  pub written : new ≡ append_known old text

-- a front of it, perhaps nothing and perhaps all
abbrev pub WritesFront : ℕ → Option (List ℕ) → Option (List ℕ) → Type 0
WritesFront seed old new = (text : List ℕ) → IsTextOf seed text → AppendsFront old new text

-- not all of it
abbrev pub WritesPart : ℕ → Option (List ℕ) → Option (List ℕ) → Type 0
WritesPart seed old new = (text : List ℕ) → IsTextOf seed text → IfSome old (λ before. AppendsPart old new text)
