-- What changed since verdicts were marked, and what a marking leaves.
use Rattle.std.specs.Prelude.{◌≡◌, ◌≢◌, List, map, All}
use Rattle.std.specs.declared.option.Option.{Option}
use Rattle.std.specs.declared.option.Option.TheVariants.{Some, None}
use Rattle.std.specs.FinMap as fin
use Rattle.std.specs.List.Sorted.{IsStrictlySortedBy}
use Rattle.path_model.specs.declared.key.Key.{Key}
use Rattle.path_model.specs.declared.verdict.Verdict.{Verdict}
use Rattle.path_model.specs.Key.{key_cmp}
use Rattle.rib_store.specs.declared.journal.ChangedKey.{ChangedKey}
use Rattle.rib_store.specs.State.{State, IsCurrent}

-- the verdict of a key by the current routes, table and roles: none where it has no route
abbrev pub StandsAs : State → Key → Option Verdict → Type 0
StandsAs state key None = fin.get state.routes key ≡ None
StandsAs state key (Some verdict) = IsCurrent state key verdict

-- the key was marked as `before` (none: it had no route then), stands as `after`, and these differ
pub record IsChange (state : State) (key : Key) (before after : Option Verdict) : Type 0 where
  pub marked : fin.get state.marked key ≡ before
  pub stands : StandsAs state key after
  pub differ : before ≢ after

-- all keys that stand otherwise than they were marked, each once, in key order, with both verdicts
pub record AreChanges (state : State) (changes : List ChangedKey) : Type 0 where
  pub ascending : IsStrictlySortedBy key_cmp (map (λ change. change.key) changes)
  pub each : All (λ change. IsChange state change.key change.before change.after) changes
  pub others : (key : Key) → All (λ change. change.key ≢ key) changes → StandsAs state key (fin.get state.marked key)

-- all verdicts are marked as they stand, and nothing else is altered
pub record IsMarked (old new : State) : Type 0 where
  pub marked : (key : Key) → StandsAs old key (fin.get new.marked key)
  pub others : new ≡ record old { marked = new.marked }
