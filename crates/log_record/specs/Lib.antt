pub mod Records
pub mod Replay
pub mod Written
