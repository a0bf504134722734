pub mod Grounds
pub mod Storing
pub mod Trying
pub mod Sweeps
pub mod Promised
