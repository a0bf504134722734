pub mod NextKey
pub mod Outcomes
pub mod Effects
