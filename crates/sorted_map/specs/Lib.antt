pub mod Chunk
pub mod Joined
