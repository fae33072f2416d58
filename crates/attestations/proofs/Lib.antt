pub mod EntryLemmas
pub mod GatheredLemmas
pub mod HeldLemmas
pub mod MovesLemmas
pub mod PartsLemmas
pub mod SetOfLemmas
pub mod TermLemmas
