-- What reading words by their kind and form answers. Only private contracts cite this module.
use Rattle.std.specs.Prelude.{◌≡◌, List, ◌∷◌, ℕ, IfOk, IfErr}
use Rattle.std.specs.declared.result.Result.{Result}
use Rattle.std.specs.declared.result.Result.TheVariants.{Ok, Err}
use Rattle.script_lines.specs.declared.commands.Command.{Command}
use Rattle.path_model.specs.declared.addr.Addr.{Addr}
use Rattle.path_model.specs.declared.role.Role.{Role}
use Rattle.path_model.specs.Prefix.{Subnet}
use Rattle.std.specs.declared.option.Option.{Option}
use Rattle.script_lines.specs.declared.commands.Command.TheVariants.{Explain, ExplainRoute}
use Rattle.script_lines.specs.declared.fault.LineFault.{LineFault}
use Rattle.script_lines.specs.declared.fields.OneOf.{OneOf}
use Rattle.script_lines.specs.declared.fields.OneOf.TheVariants.{One, Other}
use Rattle.script_lines.specs.declared.fault.LineFault.TheVariants.{Long, Command as NoCommand, Words, Number, NoMemory}
use Rattle.conditions.specs.declared.asked.Conditions.{Conditions}
use Rattle.script_lines.specs.declared.condition_words.ConditionName.{ConditionName}
use Rattle.script_lines.specs.Conditions.{condition_kind, with_condition}
use Rattle.script_lines.specs.Kinds.{WordKind, ValueOf, Spells, HasForm, LacksNumber}
use Rattle.script_lines.specs.Forms.{Form, ◌then◌, AreTexts, Builds, IsSpelled, Fits, SomeNoNumber}

-- a word of this kind is refused for this cause
abbrev pub RefusesWord : WordKind → List ℕ → LineFault → Type 0
RefusesWord kind word Words = ¬ HasForm kind word
RefusesWord kind word Number = HasForm kind word × LacksNumber kind word
RefusesWord kind word NoMemory = Unit {0}
RefusesWord kind word Long = ⊥
RefusesWord kind word NoCommand = ⊥

-- whatever makes a command of the words' values, the words spell the command that it makes of these
abbrev pub AreSpelled : (form : Form) → (Builds form → Command) → List (List ℕ) → Type 0
AreSpelled form command words = (build : Builds form) → IsSpelled form build words (command build)

-- words of this form are refused for this cause
abbrev pub RefusesWords : Form → List (List ℕ) → LineFault → Type 0
RefusesWords form words Words = ¬ Fits form words
RefusesWords form words Number = Fits form words × SomeNoNumber form words
RefusesWords form words NoMemory = Unit {0}
RefusesWords form words Long = ⊥
RefusesWords form words NoCommand = ⊥

-- these are the other conditions with this one
pub record IsWith (name : ConditionName) (word : List ℕ) (others : Result Conditions LineFault) (all : Conditions) : Type 0 where
  pub value : ValueOf (condition_kind name)
  pub spells : Spells (condition_kind name) word value
  pub more : Conditions
  pub others_are : others ≡ Ok more
  pub all_are : all ≡ with_condition name value more

-- whatever comes after it and is read so, a word of this kind is refused with it for this cause
abbrev pub RefusesWith : WordKind → List ℕ → Result Conditions LineFault → LineFault → Type 0
RefusesWith kind word others fault =
    (form : Form) (words : List (List ℕ)) → IfOk others (λ read. Fits form words) → IfErr others (RefusesWords form words)
    → RefusesWords (kind then form) (word ∷ words) fault

-- texts are refused for this cause
abbrev pub RefusesTexts : List (List ℕ) → LineFault → Type 0
RefusesTexts words Words = ¬ AreTexts words
RefusesTexts words Number = ⊥
RefusesTexts words NoMemory = Unit {0}
RefusesTexts words Long = ⊥
RefusesTexts words NoCommand = ⊥

-- two values, or the fault of one: that of a number comes last
abbrev pub joined : {A B : Type 0} → Result A LineFault → Result B LineFault → Result (A × B) LineFault
joined (Ok a) (Ok b) = Ok (a, b)
joined (Ok a) (Err fault) = Err fault
joined (Err fault) (Ok b) = Err fault
joined (Err Number) (Err fault) = Err fault
joined (Err fault) (Err other) = Err fault

-- what is made of the values of one of two forms
abbrev pub either : {A B C : Type 0} → (A → C) → (B → C) → OneOf A B → C
either if_one if_other (One a) = if_one a
either if_one if_other (Other b) = if_other b

-- what an `explain` line explains, by its form: a path that is typed, or a route
abbrev pub explains : OneOf (Role × (ℕ × List ℕ)) (Addr × (ℕ × (Subnet × Option ℕ))) → Command
explains (One typed) = Explain typed.0 typed.1.0 typed.1.1
explains (Other held) = ExplainRoute held.0 held.1.0 held.1.1.0 held.1.1.1
