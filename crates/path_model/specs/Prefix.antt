-- Addresses, and prefixes of them (RFC 4632, section 3.1; RFC 4291, section 2.3).
use Rattle.std.specs.Prelude.{◌≡◌, ℕ, ◌-◌, ◌*◌, ◌/◌, ◌%◌, ◌^◌, ◌<◌, ◌≤◌, nat_le, if◌then◌else◌}
use Rattle.std.specs.Ordering.{nat_cmp, ordering_then}
use Rattle.std.specs.declared.option.Option.{Option}
use Rattle.std.specs.declared.option.Option.TheVariants.{Some, None}
use Rattle.std.specs.declared.cmp.Ordering.{Ordering}
use Rattle.std.specs.declared.cmp.Ordering.TheVariants.{Less, Greater}
use Rattle.path_model.specs.declared.addr.Addr.{Addr}
use Rattle.path_model.specs.declared.addr.Addr.TheVariants.{V4, V6}

-- how many bits an address has
abbrev pub bits_of : Addr → ℕ
bits_of (V4 n) = 32
bits_of (V6 n) = 128

-- the number that these bits are
abbrev pub number_of : Addr → ℕ
number_of (V4 n) = n
number_of (V6 n) = n

-- the number isn't too large for its family
abbrev pub IsAddr : Addr → Type 0
IsAddr addr = number_of addr < 2 ^ bits_of addr

-- a prefix as contracts see it
pub record Subnet : Type 0 where
  pub addr : Addr
  pub len : ℕ

-- a length of at most the address's bits, and all bits behind it are 0
pub record IsSubnet (subnet : Subnet) : Type 0 where
  pub is_addr : IsAddr subnet.addr
  pub within : subnet.len ≤ bits_of subnet.addr
  pub clear : number_of subnet.addr % 2 ^ (bits_of subnet.addr - subnet.len) ≡ 0

-- the number with so many of its last bits cleared
abbrev pub without_last : ℕ → ℕ → ℕ
without_last spare n = n / 2 ^ spare * 2 ^ spare

-- the address with all bits behind a length cleared
abbrev pub cleared : ℕ → Addr → Addr
cleared len (V4 n) = V4 (without_last (32 - len) n)
cleared len (V6 n) = V6 (without_last (128 - len) n)

-- the prefix of an address, where the length isn't over its bits
abbrev pub prefix_of : Addr → ℕ → Option Subnet
prefix_of addr len = if nat_le len (bits_of addr) then Some (record { addr = cleared len addr; len = len }) else None

-- IPv4 before IPv6, each by its number
abbrev pub addr_cmp : Addr → Addr → Ordering
addr_cmp (V4 m) (V4 n) = nat_cmp m n
addr_cmp (V4 m) (V6 n) = Less
addr_cmp (V6 m) (V4 n) = Greater
addr_cmp (V6 m) (V6 n) = nat_cmp m n

-- by address and then by length
abbrev pub subnet_cmp : Subnet → Subnet → Ordering
subnet_cmp a b = ordering_then (addr_cmp a.addr b.addr) (nat_cmp a.len b.len)
