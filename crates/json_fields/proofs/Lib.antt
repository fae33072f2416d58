pub mod EachLemmas
mod FaultLemmas
pub mod FoundLemmas
pub mod ListsLemmas
pub mod ObjectLemmas
mod TokensLemmas
pub mod TreeLemmas
mod TurnsLemmas
pub mod ValuesLemmas
