-- Addresses in any text form: of IPv6 by RFC 4291, section 2.2, of IPv4 four decimal numbers with dots.
use Rattle.std.specs.Prelude.{◌≡◌, ℕ, ◌+◌, ◌-◌, ◌*◌, ◌/◌, ◌%◌, ◌^◌, ◌≤◌, ◌⊎◌, Bool, true, false, List, [], ◌∷◌, ◌++◌, length}
use Rattle.path_model.specs.declared.addr.Addr.{Addr}
use Rattle.path_model.specs.declared.addr.Addr.TheVariants.{V4, V6}
use Rattle.av_text.specs.AddressText.{IsAddrText}
use Rattle.any_prefix.specs.Group.{IsGroup}

-- pieces with colons between them
abbrev pub joined : List (List ℕ) → List ℕ
joined [] = []
joined (p ∷ []) = p
joined (p ∷ q ∷ ps) = p ++ 58 ∷ joined (q ∷ ps)

-- The pieces are these groups of 16 bits: each one group, but the last may be an IPv4 address, which stands for two, where the run is the
-- last of its address.
abbrev pub AreGroups : Bool → List (List ℕ) → List ℕ → Type 0
AreGroups last [] gs = gs ≡ []
AreGroups last (p ∷ []) gs =
    ((g : ℕ) × IsGroup p g × (gs ≡ g ∷ []))
    ⊎ ((n : ℕ) × (last ≡ true) × IsAddrText p (V4 n) × (gs ≡ n / 65536 ∷ n % 65536 ∷ []))
AreGroups last (p ∷ q ∷ ps) gs = (g : ℕ) × (more : List ℕ) × IsGroup p g × AreGroups last (q ∷ ps) more × (gs ≡ g ∷ more)

-- a run of groups, which may be empty
pub record IsRun (last : Bool) (text groups : List ℕ) : Type 0 where
  pub pieces : List (List ℕ)
  pub joins : text ≡ joined pieces
  pub are : AreGroups last pieces groups

-- the number that groups make
abbrev pub number_of_groups : List ℕ → ℕ
number_of_groups [] = 0
number_of_groups (g ∷ gs) = g * 65536 ^ length gs + number_of_groups gs

-- all eight groups
pub record IsFull (text : List ℕ) (n : ℕ) : Type 0 where
  pub groups : List ℕ
  pub run : IsRun true text groups
  pub eight : length groups ≡ 8
  pub number : n ≡ number_of_groups groups

-- two colons stand for one or more groups of zeros
pub record IsCompressed (text : List ℕ) (n : ℕ) : Type 0 where
  pub left : List ℕ
  pub right : List ℕ
  pub high : List ℕ
  pub low : List ℕ
  pub splits : text ≡ left ++ 58 ∷ 58 ∷ right
  pub high_run : IsRun false left high
  pub low_run : IsRun true right low
  pub some_left : length high + length low ≤ 7
  pub number : n ≡ number_of_groups high * 65536 ^ (8 - length high) + number_of_groups low

-- the number of an IPv6 address in some form
abbrev pub IsSixText : List ℕ → ℕ → Type 0
IsSixText text n = IsFull text n ⊎ IsCompressed text n

-- the text is this address in some form
abbrev pub IsAnyAddrText : List ℕ → Addr → Type 0
IsAnyAddrText text (V4 n) = IsAddrText text (V4 n)
IsAnyAddrText text (V6 n) = IsSixText text n
