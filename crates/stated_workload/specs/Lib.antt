pub mod Draws
pub mod Happening
pub mod Laws
pub mod Rows
pub mod Text
pub mod Workload
