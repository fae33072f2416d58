-- Prefixes in any text form of their address (RFC 4291, sections 2.2 and 2.3; RFC 4632, section 3.1).
use Rattle.std.specs.Prelude.{◌≡◌, ℕ, List, ◌∷◌, ◌++◌, decimal}
use Rattle.path_model.specs.Prefix.{Subnet, IsSubnet}
use Rattle.any_prefix.specs.AnyAddress.{IsAnyAddrText}

-- the text is this prefix: its address in some form, `/` and its length
pub record IsAnyPrefixText (text : List ℕ) (prefix : Subnet) : Type 0 where
  pub is_subnet : IsSubnet prefix
  pub front : List ℕ
  pub address : IsAnyAddrText front prefix.addr
  pub whole : text ≡ front ++ 47 ∷ decimal prefix.len
