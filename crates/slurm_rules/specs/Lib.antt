pub mod Answers
pub mod Form
pub mod Kept
pub mod Laws
pub mod Numbers
pub mod Reading
