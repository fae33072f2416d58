pub mod Fault
pub mod Integer
pub mod Laws
pub mod Number
pub mod Value
pub mod Writing
