-- Laws of events, each the contract of a public function of the module `laws`.
use Rattle.std.specs.Prelude.{◌≡◌, List, map, None, Some}
use Rattle.std.specs.FinMap as fin
use Rattle.av_base.specs.One.{HasOne}
use Rattle.path_model.specs.declared.key.Key.{Key}
use Rattle.path_model.specs.declared.verdict.Verdict.{Verdict}
use Rattle.rib_store.specs.declared.journal.ChangedKey.{ChangedKey}
use Rattle.rib_store.specs.Changes.{AreChanges}
use Rattle.rib_store.specs.State.{State}
use Rattle.analyser.specs.declared.event.Event.{Event}
use Rattle.analyser.specs.Events.{Happens}
use Rattle.analyser.specs.Touched.{Costs}

-- each event has exactly one outcome from any state
abbrev pub EventsHaveOneOutcome : Type 0
EventsHaveOneOutcome = (state : State) (event : Event) → HasOne (Happens state event)

-- each event has exactly one cost between any two states
abbrev pub EventsHaveOneCost : Type 0
EventsHaveOneCost = (old : State) (event : Event) (new : State) → HasOne (Costs old event new)

-- a key that had this marked verdict has no route
abbrev pub gone : Key × Verdict → ChangedKey
gone e = record { key = e.0; before = Some e.1; after = None }

-- once all routes are gone, what changed since verdicts were marked is that each key with a marked verdict has no route
abbrev pub ClearedRoutesAreListedAsGone : Type 0
ClearedRoutesAreListedAsGone = (state : State) (changes : List ChangedKey)
    → AreChanges (record state { routes = fin.empty }) changes → changes ≡ map gone (fin.entries state.marked)
