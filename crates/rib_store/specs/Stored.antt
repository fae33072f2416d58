-- What a store is, as contracts see it.
use Rattle.shared_cases.specs.Cases.{Slots}
use Rattle.rib_store.specs.State.{State}

-- the state of the analysis, and the cases that its routes share
pub record Stored : Type 0 where
  pub state : State
  pub cases : Slots
