pub mod Fitting
pub mod Hops
pub mod Silence
