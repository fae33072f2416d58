use Rattle.std.proofs.Common.{◌↔◌, subst}
use Rattle.std.specs.List.{Contains}
use Rattle.path_model.specs.declared.role.Direction.{Direction}
use Rattle.valleys.specs.Valleys.{HasValley}
use Rattle.valleys.proofs.WalkLemmas.{open_behind, valleys_exported}
use Rattle.valleys.proofs.walk.valleys.Goals as goal

pub export-requires : goal.export-requires
export-requires g c = open_behind (g.T.Table.rows c.args.table.now) c.args.chain.now _ c.in_ok-opened.opened c.pass_all.new.found.items c.in_ok-opened.ensures

pub returns-clause-exact : goal.returns-clause-exact
returns-clause-exact g c = λ v.
    let table = g.T.Table.rows c.args.table.now in
    let all : Contains c.export.new.found.items v ↔ HasValley table c.direction.result c.args.chain.now v =
    valleys_exported table c.direction.result c.args.chain.now c.in_ok-opened.opened c.pass_all.new.found.items c.export.new.found.items c.in_ok-opened.ensures c.in_ok-export.ensures v in
    let same : Contains c.of.result v ↔ Contains c.export.new.found.items v = c.of.ensures.same v in
    subst (λ (d : Direction). Contains c.of.result v ↔ HasValley table d c.args.chain.now v) c.direction.ensures
    ((λ h. all.0 (same.0 h)), λ has. same.1 (all.1 has))
