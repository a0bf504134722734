pub mod Replay
pub mod Same
pub mod Records
pub mod Capacity
pub mod Laws
pub mod Meaning
pub mod Opening
pub mod Survival
