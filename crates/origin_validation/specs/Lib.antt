pub mod Fronts
pub mod Held
pub mod Laws
pub mod Records
pub mod Rows
