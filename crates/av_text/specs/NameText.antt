-- How names are written: as themselves.
use Rattle.std.specs.Prelude.{◌≡◌, ℕ, List}
use Rattle.path_model.specs.Name.{IsName}

-- the text is the one spelling of this name
abbrev pub IsNameText : List ℕ → List ℕ → Type 0
IsNameText text name = (name ≡ text) × IsName text
