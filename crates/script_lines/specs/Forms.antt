-- The forms that the words behind a command's name may have.
use Rattle.std.specs.Prelude.{◌≡◌, ◌⊎◌, ℕ, ◌≤◌, List, [], ◌∷◌, length, slice_get, map, All, decimal}
use Rattle.std.specs.List.{join_with_byte}
use Rattle.std.specs.declared.option.Option.{Option}
use Rattle.std.specs.declared.option.Option.TheVariants.{Some, None}
use Rattle.av_text.specs.Number.{Is32Bit, IsNoNumber}
use Rattle.conditions.specs.declared.asked.Conditions.{Conditions}
use Rattle.script_lines.specs.declared.commands.Command.{Command}
use Rattle.script_lines.specs.declared.condition_words.Given.{Given}
use Rattle.script_lines.specs.Conditions.{AreConditions, FitConditions, SomeConditionNoNumber}
use Rattle.script_lines.specs.Kinds.{WordKind, TEXT, ValueOf, Spells, HasForm, LacksNumber}

infixr 5 ◌then◌
infixr 4 ◌or◌
-- no more words; any number of ASes, but at least so many; one or more words, whatever they are; a word of some kind or none; a word of some
-- kind, and then others; one form, or another one where the words don't fit that; or conditions, each at most once, where some have come
pub data Form : Type 0 where
  end : Form
  ases : ℕ → Form
  texts : Form
  optional : WordKind → Form
  ◌then◌ : WordKind → Form → Form
  ◌or◌ : Form → Form → Form
  conditions : Given → Form

-- what makes a command of the words' values
abbrev pub Builds : Form → Type 0
Builds end = Command
Builds (ases least) = List ℕ → Command
Builds texts = List ℕ → Command
Builds (optional kind) = Option (ValueOf kind) → Command
Builds (kind then form) = ValueOf kind → Builds form
Builds (form or other) = Builds form × Builds other
Builds (conditions given) = Conditions → Command

-- the words are those of these ASes
abbrev pub AreAses : List (List ℕ) → List ℕ → Type 0
AreAses words ns = All Is32Bit ns × (words ≡ map decimal ns)

-- each of the words is a text,
abbrev pub AreTexts : List (List ℕ) → Type 0
AreTexts words = All (HasForm TEXT) words

-- and what they say is the words with one space between two
abbrev pub sentence : List (List ℕ) → List ℕ
sentence words = join_with_byte 32 words

-- the words fit the form, in number and in spelling, but for those where a number must stand
abbrev pub Fits : Form → List (List ℕ) → Type 0
Fits end words = words ≡ []
Fits (ases least) words = least ≤ length words
Fits texts words = (1 ≤ length words) × AreTexts words
Fits (optional kind) [] = Unit {0}
Fits (optional kind) (word ∷ words) = HasForm kind word × (words ≡ [])
Fits (kind then form) [] = ⊥
Fits (kind then form) (word ∷ words) = HasForm kind word × Fits form words
Fits (form or other) words = Fits form words ⊎ Fits other words
Fits (conditions given) words = FitConditions given words

-- the words spell the values of which the command is made
abbrev pub IsSpelled : (form : Form) → Builds form → List (List ℕ) → Command → Type 0
IsSpelled end made words command = (words ≡ []) × (command ≡ made)
IsSpelled (ases least) build words command =
    (ns : List ℕ) × (least ≤ length ns) × AreAses words ns × (command ≡ build ns)
IsSpelled texts build words command =
    (1 ≤ length words) × AreTexts words × (command ≡ build (sentence words))
IsSpelled (optional kind) build [] command = command ≡ build None
IsSpelled (optional kind) build (word ∷ words) command =
    (value : ValueOf kind) × Spells kind word value × (words ≡ []) × (command ≡ build (Some value))
IsSpelled (kind then form) build [] command = ⊥
IsSpelled (kind then form) build (word ∷ words) command =
    (value : ValueOf kind) × Spells kind word value × IsSpelled form (build value) words command
IsSpelled (form or other) build words command =
    IsSpelled form build.0 words command ⊎ ((¬ Fits form words) × IsSpelled other build.1 words command)
IsSpelled (conditions given) build words command =
    (given_here : Conditions) × AreConditions given words given_here × (command ≡ build given_here)

-- one of these words isn't an AS
pub record SomeNoAs (words : List (List ℕ)) : Type 0 where
  pub word : List ℕ
  pub place : ℕ
  pub among : slice_get words place ≡ Some word
  pub no_number : IsNoNumber word

-- where a number must stand, some word is none in its range
abbrev pub SomeNoNumber : Form → List (List ℕ) → Type 0
SomeNoNumber end words = ⊥
SomeNoNumber (ases least) words = SomeNoAs words
SomeNoNumber texts words = ⊥
SomeNoNumber (optional kind) [] = ⊥
SomeNoNumber (optional kind) (word ∷ words) = LacksNumber kind word
SomeNoNumber (kind then form) [] = ⊥
SomeNoNumber (kind then form) (word ∷ words) = LacksNumber kind word ⊎ SomeNoNumber form words
SomeNoNumber (form or other) words =
    (Fits form words × SomeNoNumber form words) ⊎ ((¬ Fits form words) × SomeNoNumber other words)
SomeNoNumber (conditions given) words = SomeConditionNoNumber words
