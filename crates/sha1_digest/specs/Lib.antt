pub mod Constants
pub mod Sha1
pub mod Digests
pub mod Schedule
