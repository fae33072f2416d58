-- What a script's line is: a command, or refused for a cause. A line stands here without its LF, and without a CR before that LF.
use Rattle.std.specs.Prelude.{◌≡◌, ℕ, ◌<◌, ◌≤◌, ◌⊎◌, List, [], ◌∷◌, length, slice_get, All}
use Rattle.std.specs.declared.option.Option.TheVariants.{Some}
use Rattle.std.specs.declared.result.Result.{Result}
use Rattle.std.specs.declared.result.Result.TheVariants.{Ok, Err}
use Rattle.av_text.specs.Words.{words_of}
use Rattle.script_lines.specs.declared.commands.Command.{Command}
use Rattle.script_lines.specs.declared.commands.Command.TheVariants.{Idle}
use Rattle.script_lines.specs.declared.commands.CommandName.{CommandName}
use Rattle.script_lines.specs.declared.fault.LineFault.{LineFault}
use Rattle.script_lines.specs.declared.fault.LineFault.TheVariants.{Long, Command as NoCommand, Words, Number, NoMemory}
use Rattle.script_lines.specs.Forms.{Fits, SomeNoNumber}
use Rattle.script_lines.specs.Commands.{IsCommandName, name_text, form_of, SpellsCommand}

-- the first byte is `#`
abbrev pub IsComment : List ℕ → Type 0
IsComment line = slice_get line 0 ≡ Some 35

-- a line that is read by its words: no comment, and of at most 4,096 bytes
pub record IsRead (line : List ℕ) : Type 0 where
  pub no_comment : ¬ IsComment line
  pub short : length line ≤ 4096

-- a tab, or a byte of printable ASCII
abbrev pub IsPrintable : ℕ → Type 0
IsPrintable byte = (byte ≡ 9) ⊎ ((32 ≤ byte) × (byte ≤ 126))

-- a line that does nothing
abbrev pub IsIdle : List ℕ → Type 0
IsIdle line = IsComment line ⊎ (IsRead line × (words_of line ≡ []))

-- a line whose first word names a command
pub record IsNamed (line : List ℕ) : Type 0 where
  pub read : IsRead line
  pub name : CommandName
  pub words : List (List ℕ)
  pub words_are : words_of line ≡ name_text name ∷ words

-- the words behind the name fit the command's form, and each byte is printable
abbrev pub IsFormed : (line : List ℕ) → IsNamed line → Type 0
IsFormed line named = All IsPrintable line × Fits (form_of named.name) named.words

-- what the line is: this command, or refused for this cause; the causes are tested in this order
abbrev pub IsReading : List ℕ → Result Command LineFault → Type 0
IsReading line (Ok command) =
    (IsIdle line × (command ≡ Idle))
    ⊎ ((named : IsNamed line) × All IsPrintable line × SpellsCommand named.name named.words command)
IsReading line (Err Long) = (¬ IsComment line) × (4096 < length line)
IsReading line (Err NoCommand) =
    IsRead line × ((first : List ℕ) × (more : List (List ℕ)) × (words_of line ≡ first ∷ more) × ¬ IsCommandName first)
IsReading line (Err Words) = (named : IsNamed line) × ¬ IsFormed line named
IsReading line (Err Number) =
    (named : IsNamed line) × IsFormed line named × SomeNoNumber (form_of named.name) named.words
IsReading line (Err NoMemory) = ⊥
