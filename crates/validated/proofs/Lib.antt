mod AnswerLemmas
mod AssertingLemmas
mod ContentLemmas
mod FormLemmas
mod GatheringLemmas
mod KeptLemmas
pub mod LawLemmas
mod NumeralLemmas
