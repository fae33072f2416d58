pub mod Codes
pub mod Laws
pub mod Leak
pub mod LeakBy
pub mod Marks
