pub mod JudgingLemmas
pub mod WalkLemmas
