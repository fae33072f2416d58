pub mod AnnounceLemmas
pub mod AnswerLemmas
pub mod CaseLemmas
pub mod PayloadLemmas
pub mod SetLemmas
