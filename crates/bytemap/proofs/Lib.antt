pub mod Find
pub mod Pairs
pub mod Next
pub mod Walk
