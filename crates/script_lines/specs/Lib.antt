pub mod Commands
pub mod Conditions
pub mod Fields
pub mod Forms
pub mod Grammar
pub mod Kinds
pub mod Laws
pub mod Word
