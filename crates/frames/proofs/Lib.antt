pub mod Digits
pub mod Reading
pub mod Framing
pub mod Clipping
