use Rattle.std.proofs.Common.{◌≡◌, ◌++◌, drop}
use Rattle.std.specs.Map.{keys_of}
use Rattle.sorted_map.specs.Joined.{joined}
use Rattle.sorted_map.proofs.sorted.Sorted.push_keys.Given as goal

-- the keys that are there are followed by those of the chunks to come
abbrev pub invariant-loop-chunk : goal.invariant-loop-chunk
invariant-loop-chunk g l = l.into.items ++ keys_of (joined (drop l.chunk-index l.chunk-items)) ≡ l.fn.into.items ++ keys_of l.fn.self
