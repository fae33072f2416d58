-- The line that says what came of serving routers.
use Rattle.std.specs.Prelude.{ℕ, List, [], ◌∷◌, ◌++◌, codes, decimal}

-- how many routers were accepted and how many answers were sent whole, without the line feed
abbrev pub served_line : ℕ → ℕ → List ℕ
served_line accepted answers = codes "served " ++ decimal accepted ++ codes " answers " ++ decimal answers

-- and with it
abbrev pub served_text : ℕ → ℕ → List ℕ
served_text accepted answers = served_line accepted answers ++ 10 ∷ []
