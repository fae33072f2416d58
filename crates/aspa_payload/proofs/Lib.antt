mod AnswerLemmas
pub mod AttestedLemmas
mod ContentLemmas
mod DecideLemmas
pub mod FileLawLemmas
mod FileLemmas
mod IntegersLemmas
mod LineLawLemmas
mod LineLemmas
pub mod LinesLawLemmas
mod LinesLemmas
mod OneLemmas
mod ReadingLemmas
mod SpellingLemmas
mod WritingLemmas
