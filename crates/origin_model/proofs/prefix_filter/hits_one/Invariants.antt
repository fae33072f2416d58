use Rattle.std.proofs.Common.{drop}
use Rattle.origin_model.specs.PrefixFilter.{IsHit}
use Rattle.origin_model.proofs.prefix_filter.hits_one.Given as goal

abbrev pub invariant-loop-f : goal.invariant-loop-f
invariant-loop-f l = (IsHit l.filters l.v → IsHit (drop l.f-index l.filters) l.v) × (IsHit (drop l.f-index l.filters) l.v → IsHit l.filters l.v)
