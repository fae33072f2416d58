-- Marks that stand between the parts of a text.
use Rattle.std.specs.Prelude.{◌≢◌, ℕ, List, All}

-- no byte is the mark
abbrev pub Lacks : ℕ → List ℕ → Type 0
Lacks mark text = All (λ byte. byte ≢ mark) text
