-- The orders of addresses, prefixes, peers, announced prefixes and keys tell different ones apart.
use Rattle.std.proofs.Common.{◌≡◌, refl, ap}
use Rattle.std.specs.Option.{option_cmp}
use Rattle.std.specs.declared.option.Option.TheVariants.{Some, None}
use Rattle.std.specs.Ordering.{nat_cmp, ordering_then}
use Rattle.std.specs.declared.cmp.Ordering.{Ordering}
use Rattle.std.specs.declared.cmp.Ordering.TheVariants.{Less, Equal, Greater}
use Rattle.std.proofs.lemmas.Map.Lookups.{CmpEqualImpliesEq, exact_unsigned}
use Rattle.path_model.specs.declared.addr.Addr.TheVariants.{V4, V6}
use Rattle.path_model.specs.Prefix.{addr_cmp, subnet_cmp}
use Rattle.path_model.specs.Key.{peer_cmp, nlri_cmp, nlri_of, key_cmp}

-- where one order after another finds no difference, neither does
both_equal : (a b : Ordering) → ordering_then a b ≡ Equal → (a ≡ Equal) × (b ≡ Equal)
both_equal Less b e = absurd cc
both_equal Equal b e = (refl, e)
both_equal Greater b e = absurd cc

pub addr_exact : CmpEqualImpliesEq addr_cmp
addr_exact (V4 m) (V4 n) e = ap V4 (exact_unsigned m n e)
addr_exact (V4 m) (V6 n) e = absurd cc
addr_exact (V6 m) (V4 n) e = absurd cc
addr_exact (V6 m) (V6 n) e = ap V6 (exact_unsigned m n e)

pub subnet_exact : CmpEqualImpliesEq subnet_cmp
subnet_exact a b e =
    let parts = both_equal (addr_cmp a.addr b.addr) (nat_cmp a.len b.len) e in
    let addr = addr_exact a.addr b.addr parts.0 in
    let len = exact_unsigned a.len b.len parts.1 in
    λ i. record { addr = addr i; len = len i }

pub peer_exact : CmpEqualImpliesEq peer_cmp
peer_exact a b e =
    let parts = both_equal (addr_cmp a.addr b.addr) (nat_cmp a.asn b.asn) e in
    let addr = addr_exact a.addr b.addr parts.0 in
    let asn = exact_unsigned a.asn b.asn parts.1 in
    λ i. record { addr = addr i; asn = asn i }

path_exact : CmpEqualImpliesEq (option_cmp nat_cmp)
path_exact None None e = refl
path_exact None (Some y) e = absurd cc
path_exact (Some x) None e = absurd cc
path_exact (Some x) (Some y) e = ap Some (exact_unsigned x y e)

pub nlri_exact : CmpEqualImpliesEq nlri_cmp
nlri_exact a b e =
    let parts = both_equal (subnet_cmp a.prefix b.prefix) (option_cmp nat_cmp a.path b.path) e in
    let prefix = subnet_exact a.prefix b.prefix parts.0 in
    let path = path_exact a.path b.path parts.1 in
    λ i. record { prefix = prefix i; path = path i }

pub key_exact : CmpEqualImpliesEq key_cmp
key_exact a b e =
    let parts = both_equal (peer_cmp a.peer b.peer) (nlri_cmp (nlri_of a) (nlri_of b)) e in
    let peer = peer_exact a.peer b.peer parts.0 in
    let nlri = nlri_exact (nlri_of a) (nlri_of b) parts.1 in
    λ i. record { peer = peer i; prefix = (nlri i).prefix; path = (nlri i).path }
