-- The line that says what the script wants said.
use Rattle.std.specs.Prelude.{ℕ, List, [], ◌∷◌, ◌++◌, codes}

-- `# ` and the text, without the line feed
abbrev pub said_line : List ℕ → List ℕ
said_line text = codes "# " ++ text

-- and with it
abbrev pub said_text : List ℕ → List ℕ
said_text text = said_line text ++ 10 ∷ []
