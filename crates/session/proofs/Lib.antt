pub mod Passing
pub mod Exchanging
pub mod Reach
