use Rattle.std.proofs.Common.{length}
use Rattle.bgp_attrs.proofs.ChainLemmas.{IsGathered}
use Rattle.bgp_attrs.proofs.merging.sequence_trail.Given as goal

abbrev pub invariant-loop-asn : goal.invariant-loop-asn
invariant-loop-asn l = IsGathered l.ases l.rest l.chain l.last

abbrev pub decreases-loop-asn : goal.decreases-loop-asn
decreases-loop-asn l = length l.rest
