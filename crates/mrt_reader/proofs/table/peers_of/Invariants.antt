use Rattle.std.proofs.Common.{◌≡◌, [], length}
use Rattle.bgp_attrs.specs.Joined.{items_of}
use Rattle.mrt_reader.specs.Readers.{peer_at}
use Rattle.mrt_reader.proofs.PeerLemmas.{with_front}
use Rattle.mrt_reader.proofs.table.peers_of.Given as goal

abbrev pub invariant-loop-rest : goal.invariant-loop-rest
invariant-loop-rest l = with_front l.peers.items (items_of peer_at l.rest) ≡ with_front [] (items_of peer_at l.bytes)

abbrev pub decreases-loop-rest : goal.decreases-loop-rest
decreases-loop-rest l = length l.rest
