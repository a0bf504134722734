pub mod Order
pub mod OrderLaws
pub mod Least
pub mod Fixed
