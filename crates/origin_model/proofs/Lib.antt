pub mod ChangeLemmas
pub mod CoverLemmas
pub mod FilterLemmas
pub mod LawLemmas
pub mod PayloadLemmas
pub mod SaidLemmas
pub mod StateLemmas
