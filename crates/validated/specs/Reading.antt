-- What a file says, or why it is refused.
use Rattle.std.specs.Prelude.{ℕ, List}
use Rattle.std.specs.declared.result.Result.{Result}
use Rattle.std.specs.declared.result.Result.TheVariants.{Ok, Err}
use Rattle.serde_json.specs.Data.{Data}
use Rattle.json_fields.specs.Tree.{IsTree}
use Rattle.validated.specs.Content.{HasNumbers, IsContent}
use Rattle.validated.specs.Form.{Form, IsFile}
use Rattle.validated.specs.declared.fault.ValidatedFault.{ValidatedFault}
use Rattle.validated.specs.declared.fault.ValidatedFault.TheVariants.{Json, Member, Number, Prefix, NoMemory}
use Rattle.validated.specs.declared.validated_file.Validated.{Validated}

-- the bytes are a tree of this form
pub record IsFormed (bytes : List ℕ) (form : Form) : Type 0 where
  pub tree : Data
  pub parsed : IsTree bytes tree
  pub formed : IsFile tree form

-- what is wrong where a file is refused: the causes are tested in this order, each over the whole tree
abbrev pub IsRefused : List ℕ → ValidatedFault → Type 0
IsRefused bytes Json = (tree : Data) → IsTree bytes tree → ⊥
IsRefused bytes Member = (tree : Data) × IsTree bytes tree × ((form : Form) → IsFile tree form → ⊥)
IsRefused bytes Number = (form : Form) × IsFormed bytes form × (HasNumbers form → ⊥)
IsRefused bytes Prefix = (form : Form) × IsFormed bytes form × HasNumbers form × ((validated : Validated) → IsContent form validated → ⊥)
IsRefused bytes NoMemory = ⊥

-- the file says this
pub record Says (bytes : List ℕ) (validated : Validated) : Type 0 where
  pub form : Form
  pub formed : IsFormed bytes form
  pub content : IsContent form validated

-- the reading of a file: what it says, or the first cause for which it is refused
abbrev pub IsReading : List ℕ → Result Validated ValidatedFault → Type 0
IsReading bytes (Ok validated) = Says bytes validated
IsReading bytes (Err fault) = IsRefused bytes fault
