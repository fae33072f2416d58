pub mod LawLemmas
pub mod LeakLemmas
pub mod MapLemmas
pub mod NotingLemmas
pub mod OfPeerLemmas
pub mod RouteLemmas
pub mod UnitLemmas
