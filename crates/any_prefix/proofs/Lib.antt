pub mod DecideLemmas
pub mod DoubleLemmas
pub mod GroupLemmas
pub mod RunLemmas
pub mod TextLemmas
pub mod UniqueLemmas
