-- The orders of addresses, prefixes, peers, announced prefixes and keys are total: what the impls of Ord and the finite maps by key cite.
use Rattle.std.specs.Prelude.{◌≡◌, refl}
use Rattle.std.proofs.Common.{subst}
use Rattle.std.specs.Ordering.{nat_cmp, bool_cmp, on, then_cmp}
use Rattle.std.specs.declared.cmp.Ordering.{Ordering}
use Rattle.std.specs.Cmp.{IsTotalOrder, bool_cmp_total, nat_cmp_total, on_total, then_total}
use Rattle.std.specs.Cmp.Lexicographic.{options_total}
use Rattle.path_model.specs.declared.addr.Addr.{Addr}
use Rattle.path_model.specs.declared.addr.Addr.TheVariants.{V4, V6}
use Rattle.path_model.specs.declared.key.Key.{Key}
use Rattle.path_model.specs.declared.nlri.Nlri.{Nlri}
use Rattle.path_model.specs.declared.peer.Peer.{Peer}
use Rattle.path_model.specs.Prefix.{Subnet, number_of, addr_cmp, subnet_cmp}
use Rattle.path_model.specs.Key.{peer_cmp, nlri_cmp, nlri_of, key_cmp}
use Rattle.path_model.specs.Halves.{is_six}

-- addresses by their family and then by their number
abbrev by_parts : Addr → Addr → Ordering
by_parts = then_cmp (on is_six bool_cmp) (on number_of nat_cmp)

by_parts_is : (a b : Addr) → by_parts a b ≡ addr_cmp a b
by_parts_is (V4 m) (V4 n) = refl
by_parts_is (V4 m) (V6 n) = refl
by_parts_is (V6 m) (V4 n) = refl
by_parts_is (V6 m) (V6 n) = refl

pub addr_total : IsTotalOrder addr_cmp
addr_total = subst (λ (R : Addr → Addr → Ordering). IsTotalOrder R) (λ i a b. by_parts_is a b i) (then_total (on_total is_six bool_cmp_total) (on_total number_of nat_cmp_total))

pub subnet_total : IsTotalOrder subnet_cmp
subnet_total = then_total (on_total (λ (s : Subnet). s.addr) addr_total) (on_total (λ (s : Subnet). s.len) nat_cmp_total)

pub peer_total : IsTotalOrder peer_cmp
peer_total = then_total (on_total (λ (p : Peer). p.addr) addr_total) (on_total (λ (p : Peer). p.asn) nat_cmp_total)

pub nlri_total : IsTotalOrder nlri_cmp
nlri_total = then_total (on_total (λ (n : Nlri). n.prefix) subnet_total) (on_total (λ (n : Nlri). n.path) (options_total nat_cmp_total))

pub key_total : IsTotalOrder key_cmp
key_total = then_total (on_total (λ (k : Key). k.peer) peer_total) (on_total nlri_of nlri_total)
