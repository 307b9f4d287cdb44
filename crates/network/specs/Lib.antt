pub mod Network
pub mod Kinds
pub mod Sides
pub mod Sets
