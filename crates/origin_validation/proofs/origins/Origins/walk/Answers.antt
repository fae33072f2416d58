use Rattle.std.proofs.Common.{subst}
use Rattle.std.specs.declared.ops.Bound.TheVariants.{Unbounded}
use Rattle.origin_model.specs.Current.{Parts}
use Rattle.origin_validation.specs.Held.{AreAllRight}
use Rattle.origin_validation.proofs.WalkLemmas.{range_right}
use Rattle.origin_validation.proofs.origins.Origins.walk.Goals as goal

pub new-requires : goal.new-requires
new-requires c =
    subst (λ (p : Parts). AreAllRight p c.range.result) c.self.view_is
    (range_right c.self.inside.records c.self.inside.held c.range.result Unbounded Unbounded c.self.invariant (c.range.ensures.in_range tt).0)
