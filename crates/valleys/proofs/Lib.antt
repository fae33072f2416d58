pub mod LawLemmas
pub mod OpenLemmas
pub mod OrderLemmas
pub mod WalkLemmas
