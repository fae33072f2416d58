pub mod AnyAddress
pub mod AnyPrefix
pub mod Group
pub mod Reading
