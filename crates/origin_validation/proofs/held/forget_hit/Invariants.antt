use Rattle.std.specs.Slice.Iter.{iter_rest}
use Rattle.origin_validation.specs.Held.{Keeps}
use Rattle.origin_validation.proofs.PassLemmas.{HitLater}
use Rattle.origin_validation.proofs.held.forget_hit.Given as goal

abbrev pub invariant-loop-f : goal.invariant-loop-f
invariant-loop-f l = Keeps (HitLater l.filters (iter_rest l.f-iterator)) l.fn.held.entries l.held.entries
