pub mod Limits
pub mod Text
pub mod Addresses
pub mod Stamps
pub mod Names
