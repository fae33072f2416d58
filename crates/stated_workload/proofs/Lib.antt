pub mod DrawsLemmas
pub mod HappeningLemmas
pub mod RowsLemmas
pub mod TextLemmas
pub mod WorkloadLemmas
pub mod WorkloadLawLemmas
