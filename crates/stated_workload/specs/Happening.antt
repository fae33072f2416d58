-- Events that happen one after another.
use Rattle.std.specs.Prelude.{◌≡◌, List, [], ◌∷◌}
use Rattle.rib_store.specs.State.{State}
use Rattle.analyser.specs.declared.event.Event.{Event}
use Rattle.analyser.specs.Events.{Happens}

abbrev pub HappenAll : State → List Event → State → Type 0
HappenAll old [] new = new ≡ old
HappenAll old (event ∷ more) new = (mid : State) × Happens old event mid × HappenAll mid more new

-- ---- how far events have happened; private contracts alone cite this part

-- of all these events those before the rest have happened: whatever comes of the rest comes of all
pub record HappenedBefore (old mid : State) (all rest : List Event) : Type 0 where
  pub goes_on : (new : State) → HappenAll mid rest new → HappenAll old all new
