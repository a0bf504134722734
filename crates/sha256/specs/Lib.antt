pub mod Constants
pub mod Sha256
pub mod Digests
pub mod Schedule
