pub mod FrameLemmas
pub mod MessageLemmas
pub mod NoteLemmas
