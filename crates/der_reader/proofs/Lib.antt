mod AgainLemmas
mod AnswerLemmas
pub mod BytesLemmas
pub mod DecideLemmas
pub mod FrontLemmas
mod GivenLemmas
mod IntegerLemmas
pub mod LawLemmas
pub mod LengthLemmas
mod NumberLemmas
pub mod SizeLemmas
mod WritingLemmas
