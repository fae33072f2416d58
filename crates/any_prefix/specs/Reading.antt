-- What reading the parts of a text answers: private contracts alone cite it.
use Rattle.std.specs.Prelude.{◌≡◌, ℕ, ◌+◌, ◌^◌, ◌<◌, ◌≤◌, Bool, true, false, decimal, List, ◌∷◌, ◌++◌, length, slice_index}
use Rattle.path_model.specs.declared.addr.Addr.{Addr}
use Rattle.path_model.specs.Prefix.{IsAddr}
use Rattle.any_prefix.specs.declared.run.Run.{Run}
use Rattle.any_prefix.specs.AnyAddress.{IsRun, IsAnyAddrText, IsCompressed, number_of_groups}

-- the text is a run of so many groups, at least one and not too many, that make this number
pub record IsReadRun (last : Bool) (text : List ℕ) (most : ℕ) (run : Run) : Type 0 where
  pub groups : List ℕ
  pub is : IsRun last text groups
  pub count : run.count ≡ length groups
  pub some : 1 ≤ run.count
  pub few : run.count ≤ most
  pub number : run.number ≡ number_of_groups groups
  pub small : run.number < 65536 ^ run.count

-- the same of a run that may be empty
pub record IsReadPart (last : Bool) (text : List ℕ) (most : ℕ) (run : Run) : Type 0 where
  pub groups : List ℕ
  pub is : IsRun last text groups
  pub count : run.count ≡ length groups
  pub few : run.count ≤ most
  pub number : run.number ≡ number_of_groups groups
  pub small : run.number < 65536 ^ run.count

-- the text is no run of that many groups at most,
abbrev pub IsNoRun : Bool → List ℕ → ℕ → Type 0
IsNoRun last text most = (groups : List ℕ) → IsRun last text groups → length groups ≤ most → ⊥

-- or no such run that isn't empty
abbrev pub IsNoFilledRun : Bool → List ℕ → ℕ → Type 0
IsNoFilledRun last text most = (groups : List ℕ) → IsRun last text groups → 1 ≤ length groups → length groups ≤ most → ⊥

-- both sides of two colons make this number,
abbrev pub AreReadSides : List ℕ → List ℕ → ℕ → Type 0
AreReadSides left right n = IsCompressed (left ++ 58 ∷ 58 ∷ right) n × (n < 2 ^ 128)

-- or they are no runs of seven groups at most
abbrev pub AreNoSides : List ℕ → List ℕ → Type 0
AreNoSides left right = (high low : List ℕ) → IsRun false left high → IsRun true right low → length high + length low ≤ 7 → ⊥

-- two colons stand at a place
abbrev pub IsDouble : List ℕ → ℕ → Type 0
IsDouble text at = (slice_index text at ≡ 58) × (slice_index text (at + 1) ≡ 58)

-- two colons stand nowhere before this place
abbrev pub IsFirstDouble : List ℕ → ℕ → Type 0
IsFirstDouble text place = (l r : List ℕ) → text ≡ l ++ 58 ∷ 58 ∷ r → place ≤ length l

-- the text is an address in some form, `/` and a number below 256
pub record AreAnyParts (text : List ℕ) (addr : Addr) (len : ℕ) : Type 0 where
  pub front : List ℕ
  pub address : IsAnyAddrText front addr
  pub is_addr : IsAddr addr
  pub small : len < 256
  pub whole : text ≡ front ++ 47 ∷ decimal len
