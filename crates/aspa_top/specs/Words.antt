-- Which form of words the program is called with; private contracts alone cite it.
use Rattle.std.specs.Prelude.{ℕ, List}
use Rattle.aspa_top.specs.declared.words.Form.{Form}
use Rattle.aspa_top.specs.declared.words.Form.TheVariants.{Run, Demo, Other}
use Rattle.aspa_top.specs.Program.{AreOwn, IsDemo, IsRun}

abbrev pub HasForm : List (List ℕ) → Form → Type 0
HasForm words Run = IsRun words
HasForm words (Demo seed) = IsDemo words seed
HasForm words Other = ¬ AreOwn words
