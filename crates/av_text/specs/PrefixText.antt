-- How prefixes are written (RFC 4632, section 3.1; RFC 4291, section 2.3).
use Rattle.std.specs.Prelude.{◌≡◌, ◌≢◌, ℕ, List, ◌∷◌, ◌++◌, decimal}
use Rattle.path_model.specs.Prefix.{Subnet, IsSubnet}
use Rattle.av_text.specs.AddressText.{addr_text}

-- the one spelling of a prefix: its address, `/` and its length
abbrev pub prefix_text : Subnet → List ℕ
prefix_text prefix = addr_text prefix.addr ++ 47 ∷ decimal prefix.len

-- the text is the one spelling of this prefix
abbrev pub IsPrefixText : List ℕ → Subnet → Type 0
IsPrefixText text prefix = IsSubnet prefix × (text ≡ prefix_text prefix)

-- the text spells no prefix
abbrev pub IsNoPrefixText : List ℕ → Type 0
IsNoPrefixText text = (prefix : Subnet) → IsSubnet prefix → text ≢ prefix_text prefix
