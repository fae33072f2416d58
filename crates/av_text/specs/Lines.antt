-- The lines of a text.
use Rattle.std.specs.Prelude.{◌≡◌, ◌≢◌, ℕ, ◌==◌, ◌⊎◌, Bool, List, [], ◌∷◌, ◌++◌, All, map, if◌then◌else◌}
use Rattle.std.specs.List.{slice_split}
use Rattle.std.specs.Str.Lines.{lines, strip_carriage_return}

-- a line feed
abbrev pub is_lf : ℕ → Bool
is_lf byte = byte == 10

-- all parts but the last
abbrev pub without_last : List (List ℕ) → List (List ℕ)
without_last [] = []
without_last (part ∷ []) = []
without_last (part ∷ next ∷ more) = part ∷ without_last (next ∷ more)

-- the lines that end in these bytes: the parts before a LF, each without a CR right before it
abbrev pub ended_lines : List ℕ → List (List ℕ)
ended_lines bytes = map strip_carriage_return (without_last (slice_split is_lf bytes))

-- the lines of a whole text, of which the last needs no LF, or those that end in the front of one
abbrev pub lines_in : Bool → List ℕ → List (List ℕ)
lines_in whole bytes = if whole then lines bytes else ended_lines bytes

-- a line comes first, and the others are those of what is left
abbrev pub IsFirstLine : Bool → List ℕ → List ℕ → List ℕ → Type 0
IsFirstLine whole bytes line left = lines_in whole bytes ≡ line ∷ lines_in whole left

-- no bytes, or lines of which the last ends in a LF too
abbrev pub AreWhole : List ℕ → Type 0
AreWhole bytes = (bytes ≡ []) ⊎ ((line : List ℕ) × (bytes ≡ line ++ 10 ∷ []))

-- no byte is a LF: it is a part of one line
abbrev pub IsPart : List ℕ → Type 0
IsPart bytes = All (λ byte. byte ≢ 10) bytes
