-- Changes in batches are performed, and count, batch after batch.
use Rattle.std.proofs.Common.{◌≡◌, ◌+◌, List, [], ◌∷◌, ◌++◌, refl, arith}
use Rattle.path_model.specs.declared.change.Change.{Change}
use Rattle.path_model.specs.Routes.{Routes, changed, performed}
use Rattle.rib_store.specs.Touched.{announced}

pub performed_append : (some more : List Change) (routes : Routes) → performed (some ++ more) routes ≡ performed more (performed some routes)
performed_append [] more routes = refl
performed_append (change ∷ some) more routes = performed_append some more (changed change routes)

pub announced_append : (some more : List Change) → announced (some ++ more) ≡ announced some + announced more
announced_append [] more = omega arith
announced_append (change ∷ some) more = omega (arith, announced_append some more)
