pub mod Laws
pub mod Outcomes
pub mod Routers
pub mod Serving
pub mod Steps
