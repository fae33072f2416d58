pub mod ConnectionLemmas
pub mod FaultsLemmas
pub mod GoingLemmas
pub mod NewLemmas
pub mod NextLemmas
pub mod RefusedLemmas
pub mod StandingLemmas
