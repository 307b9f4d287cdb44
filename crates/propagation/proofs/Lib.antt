mod Searches
mod Asking
mod Listing
pub mod Openings
pub mod Strikes
pub mod Undoing
pub mod Steps
mod Puts
pub mod Ends
mod Deciding
