-- What is known of each key, and what is read of it: the routes and the marked verdicts.
use Rattle.std.specs.Prelude.{List}
use Rattle.std.specs.declared.option.Option.{Option}
use Rattle.std.specs.BTreeMap.{is_at}
use Rattle.std.specs.List.{filter_map}
use Rattle.std.specs.Map.{lookup}
use Rattle.std.specs.Option.{option_map}
use Rattle.path_model.specs.declared.key.Key.{Key}
use Rattle.path_model.specs.declared.verdict.Verdict.{Verdict}
use Rattle.path_model.specs.Key.{key_cmp}
use Rattle.path_model.specs.Trail.{Path}

-- the path of a key where it has a route, and the verdict that was marked where it had one then
pub record Held : Type 0 where
  pub trail : Option Path
  pub marked : Option Verdict

-- what is known of a key
abbrev pub at : Key → List (Key × Held) → Option Held
at key es = lookup (is_at (key_cmp key)) es

-- what each key has of this part, where it has it
abbrev pub parts : {A : Type 0} → (Held → Option A) → List (Key × Held) → List (Key × A)
parts part es = filter_map (λ e. option_map (λ v. (e.0, v)) (part e.1)) es

abbrev pub paths_in : List (Key × Held) → List (Key × Path)
paths_in es = parts (λ h. h.trail) es

abbrev pub marks_in : List (Key × Held) → List (Key × Verdict)
marks_in es = parts (λ h. h.marked) es
