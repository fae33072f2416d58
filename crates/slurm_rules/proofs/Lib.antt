pub mod ContentLemmas
mod DecideLemmas
mod EachLemmas
pub mod LawLemmas
mod KeptLemmas
mod NumbersLemmas
pub mod OneLemmas
mod PrefixesLemmas
