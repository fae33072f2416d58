use Rattle.std.proofs.Common.{◌≡◌, ◌++◌, drop}
use Rattle.std.specs.Map.{values_of}
use Rattle.sorted_map.specs.Joined.{joined}
use Rattle.sorted_map.proofs.sorted.Sorted.push_values.Given as goal

-- the values that are there are followed by those of the chunks to come
abbrev pub invariant-loop-chunk : goal.invariant-loop-chunk
invariant-loop-chunk g l = l.into.items ++ values_of (joined (drop l.chunk-index l.chunk-items)) ≡ l.fn.into.items ++ values_of l.fn.self
