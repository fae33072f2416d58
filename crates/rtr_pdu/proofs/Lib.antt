pub mod FrameLemmas
pub mod KindLemmas
pub mod LawLemmas
pub mod NextLemmas
pub mod NumberLemmas
pub mod RefusalLemmas
pub mod SpelledLemmas
pub mod UnitLemmas
