-- Laws of the store, each the contract of a public function of the module `laws`.
use Rattle.av_base.specs.One.{HasOne}
use Rattle.rib_store.specs.Changes.{AreChanges, IsMarked}
use Rattle.rib_store.specs.State.{State, AreRows}
use Rattle.rib_store.specs.Touched.{IsTouchedNumber}

-- each state has exactly one list of rows
abbrev pub EachStateHasOneReport : Type 0
EachStateHasOneReport = (state : State) → HasOne (AreRows state)

-- each state has exactly one list of changes
abbrev pub EachStateHasOneListOfChanges : Type 0
EachStateHasOneListOfChanges = (state : State) → HasOne (AreChanges state)

-- from each state exactly one state comes by marking
abbrev pub EachStateHasOneMarking : Type 0
EachStateHasOneMarking = (state : State) → HasOne (IsMarked state)

-- each change of a state touches exactly one number of distinct pairs
abbrev pub EachChangeTouchesOneNumber : Type 0
EachChangeTouchesOneNumber = (old new : State) → HasOne (IsTouchedNumber old new)
