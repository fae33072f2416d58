pub mod BlockLemmas
pub mod ChunkLemmas
pub mod CountLemmas
pub mod FirstLemmas
pub mod JoinedLemmas
pub mod SearchLemmas
pub mod StepLemmas
pub mod ZipLemmas
