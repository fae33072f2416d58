pub mod Judgement
pub mod Judging
pub mod Small
pub mod Walk
