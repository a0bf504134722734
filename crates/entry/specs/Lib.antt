pub mod Bytes
pub mod Clouds
pub mod Entries
