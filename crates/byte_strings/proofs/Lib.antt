pub mod Least
pub mod Padding
