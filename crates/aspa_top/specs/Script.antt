-- A script that is read piece by piece; private contracts alone cite it.
use Rattle.std.specs.Prelude.{◌≡◌, ℕ, ◌+◌, ◌<◌, ◌≤◌, List, [], ◌∷◌, ◌++◌, length, take}
use Rattle.std.specs.Io.KnownBytes.{prepend_known, IsAtEnd}
use Rattle.std.specs.declared.option.Option.{Option}
use Rattle.std.specs.declared.result.Result.{Result}
use Rattle.av_text.specs.Lines.{AreWhole, IsPart}
use Rattle.script_lines.specs.declared.commands.Command.{Command}
use Rattle.script_lines.specs.declared.fault.LineFault.{LineFault}
use Rattle.script_lines.specs.Grammar.{IsReading}
use Rattle.aspa_top.specs.declared.script.Piece.{Piece}
use Rattle.aspa_top.specs.declared.script.Piece.TheVariants.{More, End, Over}

-- ---- reading once

-- some bytes came from the front of what was left, perhaps none
pub record ComesMore (old new : Option (List ℕ)) : Type 0 where
  pub bytes : List ℕ
  pub told : old ≡ prepend_known bytes new

-- where these whole lines end among all that is held; 0 where there are none
abbrev pub end_of : List ℕ → List ℕ → ℕ
end_of held [] = 0
end_of held (byte ∷ lines) = length held + length (byte ∷ lines)

-- So many bytes came, and stand after what was held: whole lines, perhaps none, and a part of a line. The lines end there.
pub record CameMore (room : ℕ) (old new : Option (List ℕ)) (held_old held_new : List ℕ) (count end : ℕ) : Type 0 where
  pub lines : List ℕ
  pub rest : List ℕ
  pub told : old ≡ prepend_known (lines ++ rest) new
  pub size : length (lines ++ rest) ≡ count
  pub some : 0 < count
  pub within : count ≤ room
  pub held : held_new ≡ held_old ++ (lines ++ rest)
  pub whole : AreWhole lines
  pub part : IsPart rest
  pub ends : end ≡ end_of held_old lines

-- there was no room, and a byte came
pub record CameOver (room : ℕ) (old new : Option (List ℕ)) (held_old held_new : List ℕ) : Type 0 where
  pub none : room ≡ 0
  pub bytes : List ℕ
  pub told : old ≡ prepend_known bytes new
  pub some : 0 < length bytes
  pub held : held_new ≡ held_old

-- nothing is left
pub record CameEnd (old new : Option (List ℕ)) (held_old held_new : List ℕ) : Type 0 where
  pub same : new ≡ old
  pub at_end : IsAtEnd new
  pub held : held_new ≡ held_old

-- what came of reading once more
abbrev pub Came : ℕ → Option (List ℕ) → Option (List ℕ) → List ℕ → List ℕ → Piece → Type 0
Came room old new held_old held_new (More count end) = CameMore room old new held_old held_new count end
Came room old new held_old held_new End = CameEnd old new held_old held_new
Came room old new held_old held_new Over = CameOver room old new held_old held_new

-- ---- what is held of a line

-- of a part of a line so many bytes are held: by the first one it is a comment or not, and with the others it is too long
abbrev pub held_of : List ℕ → List ℕ
held_of part = take 4098 part

-- what was held in a line's place is read as the line
abbrev pub ReadsAs : List ℕ → List ℕ → Type 0
ReadsAs line held = (reading : Result Command LineFault) → IsReading held reading → IsReading line reading

-- and so are lines, one by one
abbrev pub ReadAs : List (List ℕ) → List (List ℕ) → Type 0
ReadAs [] [] = Unit {0}
ReadAs [] (held ∷ more) = ⊥
ReadAs (line ∷ lines) [] = ⊥
ReadAs (line ∷ lines) (held ∷ more) = ReadsAs line held × ReadAs lines more
