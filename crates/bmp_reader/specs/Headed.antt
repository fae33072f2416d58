-- The header of a whole message, or why there is none; only private contracts cite it.
use Rattle.std.specs.Prelude.{◌≡◌, ℕ, ◌+◌, ◌<◌, ◌≤◌, List, [], ◌∷◌, length, None, Some, Ok, Err}
use Rattle.std.specs.declared.option.Option.{Option}
use Rattle.std.specs.declared.result.Result.{Result}
use Rattle.std.specs.Int.{w32, from_be_bytes}
use Rattle.bmp_reader.specs.declared.fault.BmpFrameFault.{BmpFrameFault}
use Rattle.bmp_reader.specs.declared.fault.BmpFrameFault.TheVariants as faults
use Rattle.bmp_reader.specs.declared.heading.Heading.{Heading}
use Rattle.bmp_reader.specs.Coming.{IsOtherVersion, IsBadLength, IsPartial}
use Rattle.bmp_reader.specs.Messages.{limit}

-- the length and the type, behind the version
abbrev pub head_at : List ℕ → Option (ℕ × ℕ)
head_at (a ∷ b ∷ c ∷ d ∷ kind ∷ rest) = Some (from_be_bytes w32 (a ∷ b ∷ c ∷ d ∷ []), kind)
head_at (a ∷ b ∷ c ∷ d ∷ []) = None
head_at (a ∷ b ∷ c ∷ []) = None
head_at (a ∷ b ∷ []) = None
head_at (a ∷ []) = None
head_at [] = None

-- the header of a whole message in front
pub record IsWholeHead (bytes : List ℕ) (head : Heading) : Type 0 where
  pub behind : List ℕ
  pub whole : bytes ≡ 3 ∷ behind
  pub says : head_at behind ≡ Some (6 + head.size, head.kind)
  pub allowed : 6 + head.size ≤ limit
  pub long : 6 + head.size ≤ length bytes

-- by the length and the type that the header says
abbrev pub IsSized : ℕ → ℕ → ℕ → Result (Option Heading) BmpFrameFault → Type 0
IsSized long count kind (Ok None) = (6 ≤ count) × (count ≤ limit) × (long < count)
IsSized long count kind (Ok (Some head)) = (count ≡ 6 + head.size) × (kind ≡ head.kind) × (count ≤ limit) × (count ≤ long)
IsSized long count kind (Err faults.BmpVersion) = ⊥
IsSized long count kind (Err faults.BmpLength) = 6 ≤ count → count ≤ limit → ⊥
IsSized long count kind (Err faults.CutShort) = ⊥

abbrev pub IsHeaded : List ℕ → Result (Option Heading) BmpFrameFault → Type 0
IsHeaded bytes (Ok None) = IsPartial bytes
IsHeaded bytes (Ok (Some head)) = IsWholeHead bytes head
IsHeaded bytes (Err faults.BmpVersion) = IsOtherVersion bytes
IsHeaded bytes (Err faults.BmpLength) = IsBadLength bytes
IsHeaded bytes (Err faults.CutShort) = ⊥
