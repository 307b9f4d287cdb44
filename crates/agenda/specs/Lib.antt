pub mod Waiting
pub mod Sequence
pub mod Numbered
pub mod Ring
pub mod Lined
pub mod Urgent
pub mod Ranked
pub mod Jobs
