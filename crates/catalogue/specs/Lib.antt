pub mod Lent
pub mod Content
pub mod View
