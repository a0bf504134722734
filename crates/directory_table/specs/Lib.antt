pub mod Entries
pub mod Answer
pub mod Making
pub mod Limits
pub mod Elements
