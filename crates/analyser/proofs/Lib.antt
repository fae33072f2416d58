pub mod ClearedLemmas
pub mod CostLemmas
pub mod DepartureLemmas
pub mod EventLemmas
pub mod TouchedLemmas
