mod AddrFormLemmas
mod AddressLemmas
pub mod AnySpellingLemmas
mod HostLemmas
pub mod LackLemmas
pub mod LineLemmas
pub mod NumberLemmas
mod OctetLemmas
mod PartLemmas
pub mod PositionLemmas
mod PrefixLemmas
mod PutLemmas
pub mod SpellingLemmas
pub mod WordLemmas
