pub mod Laws
pub mod Order
pub mod Valleys
pub mod Walk
