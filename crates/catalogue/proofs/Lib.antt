pub mod Fronts
pub mod Opening
pub mod Closing
