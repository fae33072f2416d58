use Rattle.std.proofs.Common.{length}
use Rattle.bgp_attrs.proofs.FirstLemmas.{IsWalked}
use Rattle.bgp_attrs.proofs.finding.attributes.Given as goal

abbrev pub invariant-loop-rest : goal.invariant-loop-rest
invariant-loop-rest l = IsWalked l.bytes l.rest l.firsts

abbrev pub decreases-loop-rest : goal.decreases-loop-rest
decreases-loop-rest l = length l.rest
