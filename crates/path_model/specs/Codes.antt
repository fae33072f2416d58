-- Codes of keys and paths: what a Model that has finite maps by key needs.
use Rattle.std.specs.Prelude.{◌≡◌, ℕ, Bool, List, ◌⊎◌, refl}
use Rattle.std.proofs.Common.{inl, inr}
use Rattle.std.specs.Coded.{Coded, code_by, coded×, coded⊎, coded_ℕ, coded_bool, coded_list, coded_option}
use Rattle.std.specs.declared.option.Option.{Option}
use Rattle.path_model.specs.declared.addr.Addr.{Addr}
use Rattle.path_model.specs.declared.addr.Addr.TheVariants.{V4, V6}
use Rattle.path_model.specs.declared.key.Key.{Key}
use Rattle.path_model.specs.declared.peer.Peer.{Peer}
use Rattle.path_model.specs.Prefix.{Subnet}
use Rattle.path_model.specs.Trail.{Path}

abbrev pub addr_parts : Addr → ℕ ⊎ ℕ
addr_parts (V4 n) = inl n
addr_parts (V6 n) = inr n

abbrev pub addr_of_parts : ℕ ⊎ ℕ → Addr
addr_of_parts (inl n) = V4 n
addr_of_parts (inr n) = V6 n

pub addr_parts_back : (addr : Addr) → addr_of_parts (addr_parts addr) ≡ addr
addr_parts_back (V4 n) = refl
addr_parts_back (V6 n) = refl

abbrev pub coded_addr : Coded Addr
coded_addr = code_by (ℕ ⊎ ℕ) (coded⊎ coded_ℕ coded_ℕ) addr_parts addr_of_parts addr_parts_back

abbrev pub coded_subnet : Coded Subnet
coded_subnet = code_by (Addr × ℕ) (coded× coded_addr coded_ℕ) (λ s. (s.addr, s.len)) (λ p. record { addr = p.0; len = p.1 }) (λ _. refl)

abbrev pub coded_peer : Coded Peer
coded_peer = code_by (Addr × ℕ) (coded× coded_addr coded_ℕ) (λ s. (s.addr, s.asn)) (λ p. record { addr = p.0; asn = p.1 }) (λ _. refl)

abbrev pub coded_key : Coded Key
coded_key = code_by (Peer × (Subnet × Option ℕ)) (coded× coded_peer (coded× coded_subnet (coded_option coded_ℕ)))
    (λ k. (k.peer, (k.prefix, k.path))) (λ p. record { peer = p.0; prefix = p.1.0; path = p.1.1 }) (λ _. refl)

abbrev pub coded_path : Coded Path
coded_path = code_by (Bool × List ℕ) (coded× coded_bool (coded_list coded_ℕ)) (λ p. (p.set, p.chain)) (λ p. record { set = p.0; chain = p.1 }) (λ _. refl)
