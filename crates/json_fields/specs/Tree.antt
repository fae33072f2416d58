-- The tree that a file is, and what is kept of it.
use Rattle.std.specs.Prelude.{◌≡◌, ℕ, List, IsUtf8}
use Rattle.std.specs.declared.option.Option.TheVariants.{Some, None}
use Rattle.std.specs.declared.result.Result.{Result}
use Rattle.std.specs.declared.result.Result.TheVariants.{Ok, Err}
use Rattle.serde_json.specs.Data.{Data}
use Rattle.serde_json.specs.Read.{read}
use Rattle.json_fields.specs.Answers.{MemoryOr}
use Rattle.json_fields.specs.declared.fault.JsonFault.{JsonFault}

-- the tree that the bytes are, as JSON (RFC 8259): arrays and objects nest at most 127 deep, and of members of one name the last counts
abbrev pub IsTree : List ℕ → Data → Type 0
IsTree bytes tree = IsUtf8 bytes × (read bytes ≡ Some tree)

-- the bytes are a tree, of which this is kept; or they are none; or no memory
abbrev pub IsOfFile : {X : Type 0} → (X → Data → Type 0) → List ℕ → Result X JsonFault → Type 0
IsOfFile R bytes (Ok x) = (tree : Data) × IsTree bytes tree × R x tree
IsOfFile R bytes (Err fault) = MemoryOr fault ((tree : Data) → IsTree bytes tree → ⊥)

-- the whole text is this value, of which the answer is; or it is none; or no memory (of a private function)
abbrev pub IsOfText : {X : Type 0} → (X → Data → Type 0) → List ℕ → Result X JsonFault → Type 0
IsOfText R text (Ok x) = (d : Data) × (read text ≡ Some d) × R x d
IsOfText R text (Err fault) = MemoryOr fault (read text ≡ None)
