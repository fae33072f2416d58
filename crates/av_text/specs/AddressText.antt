-- How addresses are written: like RFC 4291, section 2.2, form 1, but with all four digits of each group, so that each has one text.
use Rattle.std.specs.Prelude.{◌≡◌, ◌≢◌, ℕ, zero, suc, ◌/◌, ◌%◌, ◌^◌, List, [], ◌∷◌, ◌++◌, decimal}
use Rattle.std.specs.Char.{digit_char}
use Rattle.path_model.specs.declared.addr.Addr.{Addr}
use Rattle.path_model.specs.declared.addr.Addr.TheVariants.{V4, V6}
use Rattle.path_model.specs.Prefix.{IsAddr}

-- a number as digits in some base, one more than there are marks, the most significant first, each digit spelled, with a mark between two
abbrev pub parts_text : (ℕ → List ℕ) → ℕ → ℕ → ℕ → ℕ → List ℕ
parts_text spell mark base zero n = spell n
parts_text spell mark base (suc marks) n =
    spell (n / base ^ suc marks) ++ mark ∷ parts_text spell mark base marks (n % base ^ suc marks)

-- four lower-case hexadecimal digits
abbrev pub hex4 : ℕ → List ℕ
hex4 g = digit_char (g / 4096) ∷ digit_char (g / 256 % 16) ∷ digit_char (g / 16 % 16) ∷ digit_char (g % 16) ∷ []

-- numbers below 256 joined by dots
abbrev pub octets_text : ℕ → ℕ → List ℕ
octets_text = parts_text decimal 46 256

-- groups of four digits joined by colons
abbrev pub groups_text : ℕ → ℕ → List ℕ
groups_text = parts_text hex4 58 65536

-- the one spelling of an address
abbrev pub addr_text : Addr → List ℕ
addr_text (V4 n) = octets_text 3 n
addr_text (V6 n) = groups_text 7 n

-- the text is the one spelling of this address
abbrev pub IsAddrText : List ℕ → Addr → Type 0
IsAddrText text addr = IsAddr addr × (text ≡ addr_text addr)

-- the text spells no address
abbrev pub IsNoAddrText : List ℕ → Type 0
IsNoAddrText text = (addr : Addr) → IsAddr addr → text ≢ addr_text addr
