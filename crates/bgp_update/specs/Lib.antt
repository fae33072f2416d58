pub mod Frames
pub mod Laws
pub mod Outcomes
pub mod Updates
pub mod Views
