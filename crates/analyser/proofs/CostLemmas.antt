-- Each event has one cost from any state to any other.
use Rattle.std.proofs.Common.{◌≡◌, ℕ, refl, sym, ◌∙◌}
use Rattle.av_base.specs.One.{HasOne}
use Rattle.rib_store.specs.State.{State}
use Rattle.rib_store.specs.Touched.{announced}
use Rattle.rib_store.proofs.NumberLemmas.{IsTouchedNumber-unique, some_touched_number}
use Rattle.analyser.specs.declared.event.Event.{Event}
use Rattle.analyser.specs.declared.event.Event.TheVariants.{Routes, Table, Role, DefaultRole}
use Rattle.analyser.specs.Touched.{Costs}

-- there is a cost,
pub some_cost : (old : State) (event : Event) (new : State) → (cost : ℕ) × Costs old event new cost
some_cost old (Routes changes) new = (announced changes, refl)
some_cost old (Table change) new = some_touched_number old new
some_cost old (Role asn role) new = some_touched_number old new
some_cost old (DefaultRole role) new = some_touched_number old new

-- and no other one
pub Costs-unique : (old : State) (event : Event) (new : State) (one other : ℕ) → Costs old event new one → Costs old event new other → one ≡ other
Costs-unique old (Routes changes) new one other a b = a ∙ sym b
Costs-unique old (Table change) new one other a b = IsTouchedNumber-unique old new one other a b
Costs-unique old (Role asn role) new one other a b = IsTouchedNumber-unique old new one other a b
Costs-unique old (DefaultRole role) new one other a b = IsTouchedNumber-unique old new one other a b

pub one_cost_of : (old : State) (event : Event) (new : State) → HasOne (Costs old event new)
one_cost_of old event new = let some = some_cost old event new in record {
  one = some.0;
  is = some.1;
  only = λ other costs. Costs-unique old event new other some.0 costs some.1;
}
