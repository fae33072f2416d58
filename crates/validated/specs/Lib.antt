pub mod Answers
pub mod Content
pub mod Form
pub mod Kept
pub mod Laws
pub mod Reading
