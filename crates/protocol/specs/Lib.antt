pub mod Slots
pub mod State
pub mod Listing
pub mod Calls
pub mod Grounds
pub mod Sweeping
pub mod Events
pub mod Steps
