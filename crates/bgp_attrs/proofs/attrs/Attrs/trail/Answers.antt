use Rattle.std.proofs.Common.{◌≤◌, length, subst}
use Rattle.std.specs.Prelude.{IfSome}
use Rattle.std.specs.declared.option.Option.{Option}
use Rattle.bgp_attrs.specs.declared.pieces.Segments.{Segments}
use Rattle.bgp_attrs.proofs.attrs.Attrs.trail.Goals as goal

pub trail_along-requires : goal.trail_along-requires
trail_along-requires c = subst (λ (o : Option Segments). IfSome o (λ path. length path.rest.now ≤ 65535)) c.in-Some.is c.self.invariant
