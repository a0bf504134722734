pub mod Keys
pub mod Stamps
pub mod Names
