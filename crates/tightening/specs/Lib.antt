pub mod Tightening
pub mod Rows
pub mod Probes
pub mod Outcomes
pub mod Start
pub mod Underway
pub mod Done
