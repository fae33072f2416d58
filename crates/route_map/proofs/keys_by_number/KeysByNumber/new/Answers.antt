use Rattle.route_map.proofs.HoldersLemmas.{none_hold}
use Rattle.route_map.proofs.keys_by_number.KeysByNumber.new.Goals as goal

pub invariant_of-result : goal.invariant_of-result
invariant_of-result c = rw (c.new.ensures.empty, c.new-2.ensures.empty) none_hold
