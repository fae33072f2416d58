-- Addresses that a parser told.
use Rattle.std.proofs.Common.{◌≡◌, ℕ, List, false, IsTrue, Ok, Err, Some, Option, refl}
use Rattle.std.specs.Prelude.{is_ok}
use Rattle.std.specs.declared.result.Result.{Result}
use Rattle.std.specs.declared.net.ipv6_addr.Ipv6Addr.{Ipv6Addr}
use Rattle.std.specs.Net.Grammar.{Parses, IsIpv6Text}
use Rattle.path_model.specs.declared.addr.Addr.{Addr}
use Rattle.path_model.specs.declared.addr.Addr.TheVariants.{V4, V6}
use Rattle.av_text.specs.AddressText.{IsAddrText, IsNoAddrText}
use Rattle.av_text.specs.HostPort.{IsFour, IsSix}

pub six_told : {E : Type 0} (text : List ℕ) (r : Result Ipv6Addr E) → Parses IsIpv6Text text r → (IsTrue (is_ok r) → IsSix text) × (IsSix text → IsTrue (is_ok r))
six_told {E} text (Ok addr) parses = (λ _. (addr, parses), λ _. refl)
six_told {E} text (Err e) parses = (λ yes. absurd (cc), λ six. absurd (parses six.0 six.1))

other_version : (it : Addr) (n m : ℕ) → it ≡ V6 m → ◌≡◌ {A = Option Addr} (Some it) (Some (V4 n)) → ⊥
other_version it n m six e = cc

pub no_four : (text : List ℕ) (it : Addr) (m : ℕ) → it ≡ V6 m → ((addr : Addr) → IsAddrText text addr → ◌≡◌ {A = Option Addr} (Some it) (Some addr))
    → IsFour text → IsTrue false
no_four text it m six again four = absurd (other_version it four.0 m six (again (V4 four.0) four.1))

pub not_any : (text : List ℕ) → IsNoAddrText text → IsFour text → IsTrue false
not_any text none four = absurd (none (V4 four.0) four.1.0 four.1.1)
