pub mod Truth
pub mod Bits
pub mod Masks
pub mod Words
pub mod Walks
