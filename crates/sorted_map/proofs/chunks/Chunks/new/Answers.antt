use Rattle.sorted_map.proofs.chunks.Chunks.new.Goals as goal

pub invariant_of-result : goal.invariant_of-result
invariant_of-result g c = rw c.new.ensures.items (rw c.new-2.ensures.items tt)
