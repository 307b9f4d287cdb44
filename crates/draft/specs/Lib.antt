pub mod Draft
pub mod Law
pub mod Sound
pub mod View
pub mod Settling
pub mod Replay
