use Rattle.std.proofs.Common.{ℕ, ◌<◌, ◌+◌, ◌≤◌}
use Rattle.origin_model.specs.FilterIndex.{HasOf}
use Rattle.origin_model.proofs.prefix_filter.PrefixFilters.has_within.Given as goal

abbrev pub invariant-loop-len : goal.invariant-loop-len
invariant-loop-len l = record {
  others : (n : ℕ) → HasOf l.self l.v n → n < l.len;
  within : l.len ≤ l.v.prefix.len + 1;
}

abbrev pub decreases-loop-len : goal.decreases-loop-len
decreases-loop-len l = l.len
