-- What a SLURM file says, or why it is refused.
use Rattle.std.specs.Prelude.{◌≡◌, ℕ, List, codes}
use Rattle.std.specs.declared.option.Option.TheVariants.{Some}
use Rattle.std.specs.declared.result.Result.{Result}
use Rattle.std.specs.declared.result.Result.TheVariants.{Ok, Err}
use Rattle.serde_json.specs.Data.{Data, unsigned}
use Rattle.json_fields.specs.Object.{number_at}
use Rattle.json_fields.specs.Tree.{IsTree}
use Rattle.slurm_rules.specs.Form.{Form, IsFile}
use Rattle.slurm_rules.specs.Numbers.{HasAsns, IsContent}
use Rattle.slurm_rules.specs.declared.slurm.Slurm.{Slurm}
use Rattle.slurm_rules.specs.declared.draft.Version.{Version}
use Rattle.slurm_rules.specs.declared.draft.Version.TheVariants.{One, Two}
use Rattle.slurm_rules.specs.declared.fault.SlurmFault.{SlurmFault}
use Rattle.slurm_rules.specs.declared.fault.SlurmFault.TheVariants.{Json, Version as WrongVersion, Member, Number, PrefixText, NoMemory}

abbrev pub version_number : Version → ℕ
version_number One = 1
version_number Two = 2

-- the tree is an object that gives this version, as a whole number
abbrev pub HasVersion : Version → Data → Type 0
HasVersion version tree = number_at (codes "slurmVersion") tree ≡ Some (unsigned (version_number version))

-- the bytes are a tree of a known version
pub record IsVersioned (bytes : List ℕ) (version : Version) (tree : Data) : Type 0 where
  pub parsed : IsTree bytes tree
  pub version_is : HasVersion version tree

-- the bytes are a tree of a known version and of that version's form
pub record IsFormed (bytes : List ℕ) (form : Form) : Type 0 where
  pub version : Version
  pub tree : Data
  pub versioned : IsVersioned bytes version tree
  pub formed : IsFile version tree form

-- what is wrong where a file is refused: the causes are tested in this order, each over the whole tree
abbrev pub IsRefused : List ℕ → SlurmFault → Type 0
IsRefused bytes Json = (tree : Data) → IsTree bytes tree → ⊥
IsRefused bytes WrongVersion = (tree : Data) × IsTree bytes tree × ((version : Version) → HasVersion version tree → ⊥)
IsRefused bytes Member =
    (version : Version) × ((tree : Data) × IsVersioned bytes version tree × ((form : Form) → IsFile version tree form → ⊥))
IsRefused bytes Number = (form : Form) × IsFormed bytes form × (HasAsns form → ⊥)
IsRefused bytes PrefixText = (form : Form) × IsFormed bytes form × HasAsns form × ((slurm : Slurm) → IsContent form slurm → ⊥)
IsRefused bytes NoMemory = ⊥

-- the file says this
pub record Says (bytes : List ℕ) (slurm : Slurm) : Type 0 where
  pub form : Form
  pub formed : IsFormed bytes form
  pub content : IsContent form slurm

-- the reading of a file: what it says, or the first cause for which it is refused
abbrev pub IsReading : List ℕ → Result Slurm SlurmFault → Type 0
IsReading bytes (Ok slurm) = Says bytes slurm
IsReading bytes (Err fault) = IsRefused bytes fault
