-- Changes of routes, one list of them behind another.
use Rattle.std.proofs.Common.{◌≡◌, List, [], ◌∷◌, ◌++◌, refl}
use Rattle.path_model.specs.declared.change.Change.{Change}
use Rattle.path_model.specs.Routes.{Routes, changed, performed}

pub performed_append : (some more : List Change) (routes : Routes) → performed (some ++ more) routes ≡ performed more (performed some routes)
performed_append [] more routes = refl
performed_append (change ∷ some) more routes = performed_append some more (changed change routes)
