use Rattle.std.proofs.Common.{◌≡◌, true, ℕ}
use Rattle.shared_cases.specs.Numbers.{has}
use Rattle.shared_cases.specs.Peers.{HasMovedMember}
use Rattle.shared_cases.proofs.PeerLemmas.{AreCovered}
use Rattle.shared_cases.proofs.touched.touched_by_default.Given as goal

abbrev pub invariant-loop-asn : goal.invariant-loop-asn
invariant-loop-asn l = record {
  others : AreCovered l.peers.members (record l.roles { default = l.fn.before }) l.roles l.peers.defaulted l.found l.asn-iterator;
  only : (n : ℕ) → has l.found n ≡ true → HasMovedMember l.peers.members (record l.roles { default = l.fn.before }) l.roles n;
}
