use Rattle.std.proofs.Common.{ap, sym, subst, ◌∙◌}
use Rattle.std.specs.BTreeMap.{is_at}
use Rattle.std.specs.Map.{lookup}
use Rattle.sorted_map.specs.Joined.{joined, AreInOrder, IsPlace}
use Rattle.sorted_map.proofs.JoinedLemmas.{place_lookup}
use Rattle.sorted_map.proofs.StepLemmas.{sorted_here}
use Rattle.sorted_map.proofs.chunks.Chunks.get.Goals as goal

pub get-requires : goal.get-requires
get-requires g c =
    let place = subst (λ cs. IsPlace g.K.Ord.cmp c.args.key.now cs c.place.result) (sym c.self.view_is) c.place.ensures in
    sorted_here g.K.Ord.cmp c.self.inside.list.items c.place.result c.index.result.now c.index.ensures place.within (subst (AreInOrder g.K.Ord.cmp) (sym c.self.view_is) c.requires)

pub returns : goal.returns
returns g c =
    c.get.ensures
    ∙ place_lookup g.met.K.Ord.total c.args.key.now c.self.inside.list.items c.place.result
    (subst (λ cs. IsPlace g.K.Ord.cmp c.args.key.now cs c.place.result) (sym c.self.view_is) c.place.ensures) c.index.result.now c.index.ensures
    ∙ ap (λ cs. lookup (is_at (g.K.Ord.cmp c.args.key.now)) (joined cs)) c.self.view_is
