use Rattle.std.proofs.Common.{ℕ, ◌<◌}
use Rattle.origin_validation.specs.Records.{AllowsOf}
use Rattle.origin_validation.proofs.covering.allows.Given as goal

abbrev pub invariant-loop-max : goal.invariant-loop-max
invariant-loop-max l = (n : ℕ) → AllowsOf l.set l.filters l.front l.len l.asn n → n < l.max

abbrev pub decreases-loop-max : goal.decreases-loop-max
decreases-loop-max l = l.max
