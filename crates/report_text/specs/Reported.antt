-- Lines that are added to a text, and how many of them say that a place wasn't to be had.
use Rattle.std.specs.Prelude.{◌≡◌, ℕ, ◌+◌, ◌-◌, ◌^◌, ◌≤◌, ◌⊎◌, nat_eq, Bool, ◌&&◌, List, [], ◌∷◌, ◌++◌, codes, All}
use Rattle.std.specs.Io.KnownBytes.{append_known}
use Rattle.std.specs.List.{count_by, slice_split, starts_with, ends_with}
use Rattle.std.specs.declared.option.Option.{Option}
use Rattle.av_base.specs.Told.{AppendsFront}
use Rattle.av_text.specs.Lines.{is_lf, without_last}
use Rattle.av_text.specs.Spellings.{IsInLine}

-- a line that begins with `! ` and ends with ` unreachable`
abbrev pub is_unreachable : List ℕ → Bool
is_unreachable line = starts_with nat_eq line (codes "! ") && ends_with nat_eq line (codes " unreachable")

-- how many lines of a text do, each with its line feed
abbrev pub unreachables_in : List ℕ → ℕ
unreachables_in text = count_by is_unreachable (without_last (slice_split is_lf text))

-- so many are no more than a count of faults rose by, or that stands at its last value
abbrev pub IsWithinRise : ℕ → ℕ → ℕ → Type 0
IsWithinRise many before now = (many + before ≤ now) ⊎ (2 ^ 64 - 1 ≤ now)

-- these lines one after another, each with its line feed
abbrev pub lines_text : List (List ℕ) → List ℕ
lines_text [] = []
lines_text (line ∷ lines) = (line ++ 10 ∷ []) ++ lines_text lines

-- Whole lines were added, of which no more say that a place wasn't to be had than a count of faults rose by. `all` is what was written, and
-- behind it what is held.
pub record AddsLines (all_old all_new : Option (List ℕ)) (before now : ℕ) : Type 0 where
  pub lines : List (List ℕ)
  pub each : All IsInLine lines
  pub added : all_new ≡ append_known all_old (lines_text lines)
  pub within : IsWithinRise (count_by is_unreachable lines) before now

-- a front of such lines was, perhaps nothing and perhaps all
pub record AddsFront (all_old all_new : Option (List ℕ)) (before now : ℕ) : Type 0 where
  pub lines : List (List ℕ)
  pub each : All IsInLine lines
  pub front : AppendsFront all_old all_new (lines_text lines)
  pub within : IsWithinRise (count_by is_unreachable lines) before now

-- whole lines were added, of which none says so, whatever a count of faults stands at
abbrev pub AddsQuiet : Option (List ℕ) → Option (List ℕ) → Type 0
AddsQuiet all_old all_new = (faults : ℕ) → AddsLines all_old all_new faults faults
