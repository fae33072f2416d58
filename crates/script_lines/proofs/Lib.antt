mod AsLemmas
mod ConditionLemmas
mod ConditionReadingLemmas
mod ExplainLemmas
mod FormLemmas
mod KindLemmas
mod NameLemmas
mod ReadingLemmas
mod SpellingLemmas
mod TextLemmas
mod ValueLemmas
mod WordLemmas
pub mod CommandLemmas
pub mod LawLemmas
pub mod WrittenLemmas
