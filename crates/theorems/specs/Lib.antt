pub mod Headline
pub mod Judged
pub mod Marks
pub mod Messages
pub mod Origins
pub mod Pieces
pub mod Refused
pub mod Served
