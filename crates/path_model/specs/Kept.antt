-- Where a list of AS numbers keeps them. No public clause cites this module.
use Rattle.std.specs.Prelude.{ℕ, List}
use Rattle.path_model.specs.declared.as_list.Kept.{Kept}
use Rattle.path_model.specs.declared.as_list.Kept.TheVariants.{Few, Many}

-- the list
abbrev pub kept_ases : Kept → List ℕ
kept_ases (Few few) = few
kept_ases (Many items) = items.items
