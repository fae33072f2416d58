use Rattle.std.proofs.Common.{◌≡◌, ◌+◌, ◌≤◌, length}
use Rattle.bgp_attrs.specs.Joined.{items_of}
use Rattle.mrt_reader.specs.Readers.{entry_at}
use Rattle.mrt_reader.proofs.ShapeLemmas.{number_with}
use Rattle.mrt_reader.proofs.shaping.entries.Given as goal

abbrev pub invariant-loop-rest : goal.invariant-loop-rest
invariant-loop-rest l = record {
  same : number_with l.number (items_of (entry_at l.add_path) l.rest) ≡ number_with 0 (items_of (entry_at l.add_path) l.bytes);
  small : l.number + length l.rest ≤ length l.bytes;
}

abbrev pub decreases-loop-rest : goal.decreases-loop-rest
decreases-loop-rest l = length l.rest
