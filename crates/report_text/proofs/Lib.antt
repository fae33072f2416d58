pub mod AnswerLemmas
pub mod AsesLemmas
pub mod AttestedLemmas
mod CauseLemmas
mod DigitLemmas
mod FrontLemmas
mod InLineLemmas
pub mod RefusalLemmas
pub mod ReportedLemmas
