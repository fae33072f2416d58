-- How a prefix is held: private contracts alone cite it.
use Rattle.std.specs.Prelude.{◌≡◌, ℕ, ◌+◌, ◌*◌, ◌/◌, ◌%◌, ◌^◌, ◌<◌, Bool, true, false}
use Rattle.path_model.specs.declared.addr.Addr.{Addr}
use Rattle.path_model.specs.declared.addr.Addr.TheVariants.{V4, V6}
use Rattle.path_model.specs.Prefix.{Subnet, IsSubnet}

-- an address from its family and its two halves
abbrev pub addr_from : Bool → ℕ → ℕ → Addr
addr_from true high low = V6 (high * 2 ^ 64 + low)
addr_from false high low = V4 low

abbrev pub is_six : Addr → Bool
is_six (V4 n) = false
is_six (V6 n) = true

abbrev pub high_of : Addr → ℕ
high_of (V4 n) = 0
high_of (V6 n) = n / 2 ^ 64

abbrev pub low_of : Addr → ℕ
low_of (V4 n) = n
low_of (V6 n) = n % 2 ^ 64

-- the halves are those of an address of the family
abbrev pub AreHalves : Bool → ℕ → ℕ → Type 0
AreHalves true high low = low < 2 ^ 64
AreHalves false high low = high ≡ 0

-- the prefix of a length from the two halves of its address
abbrev pub subnet_of : Bool → ℕ → ℕ → ℕ → Subnet
subnet_of six high low len = record { addr = addr_from six high low; len = len }

-- the halves of the address of a prefix
pub record IsHeld (six : Bool) (high low len : ℕ) : Type 0 where
  pub halves : AreHalves six high low
  pub subnet : IsSubnet (subnet_of six high low len)
