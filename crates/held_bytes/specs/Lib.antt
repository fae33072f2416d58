pub mod Divided
pub mod Held
pub mod Units
