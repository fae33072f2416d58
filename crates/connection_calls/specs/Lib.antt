pub mod Connection
pub mod Ends
pub mod Faults
pub mod Moves
pub mod Refusals
pub mod World
