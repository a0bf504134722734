pub mod Index
pub mod Closing
pub mod Sound
pub mod Meaning
pub mod Making
pub mod Limits
