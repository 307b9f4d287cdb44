pub mod Reads
pub mod Formula
pub mod Table
pub mod Pairs
pub mod Joined
pub mod Residues
