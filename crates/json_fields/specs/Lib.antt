pub mod Answers
pub mod Each
pub mod Object
pub mod Tokens
pub mod Tree
