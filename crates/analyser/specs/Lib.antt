pub mod Departures
pub mod Events
pub mod Laws
pub mod Touched
