pub mod Lines
pub mod Frames
pub mod Answers
pub mod Received
