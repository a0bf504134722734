pub mod Values
pub mod Grounds
