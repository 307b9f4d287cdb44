pub mod Takes
pub mod Waits
mod Masks
mod Risings
mod NumberSets
mod Sequences
mod Rings
mod Places
mod Urgencies
mod Buckets
