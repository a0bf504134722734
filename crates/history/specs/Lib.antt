pub mod Deeds
pub mod Promises
