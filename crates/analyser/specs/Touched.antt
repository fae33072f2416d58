-- How many judgements an event may cost.
use Rattle.std.specs.Prelude.{◌≡◌, ◌≤◌, ◌+◌, ℕ}
use Rattle.rib_store.specs.State.{State}
use Rattle.rib_store.specs.Touched.{announced, IsTouchedNumber}
use Rattle.analyser.specs.declared.event.Event.{Event}
use Rattle.analyser.specs.declared.event.Event.TheVariants.{Routes, Table, Role, DefaultRole}
use Rattle.analyser.specs.Events.{Happens}

-- How many judgements an event may cost: one for each route that it announces, and one for each distinct pair of a peer AS and a path of
-- routes that it touches.
abbrev pub Costs : State → Event → State → ℕ → Type 0
Costs old (Routes changes) new cost = cost ≡ announced changes
Costs old (Table change) new cost = IsTouchedNumber old new cost
Costs old (Role asn role) new cost = IsTouchedNumber old new cost
Costs old (DefaultRole role) new cost = IsTouchedNumber old new cost

-- no more steps were taken than the event may cost
abbrev pub TicksWithin : State → Event → ℕ → ℕ → Type 0
TicksWithin old event before after =
    (new : State) (cost : ℕ) → Happens old event new → Costs old event new cost → after ≤ before + cost
