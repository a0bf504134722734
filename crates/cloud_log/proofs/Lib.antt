pub mod Standing
pub mod Changed
pub mod State
pub mod Calls
pub mod ClosingUp
