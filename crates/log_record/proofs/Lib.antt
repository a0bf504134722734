pub mod ReadBack
pub mod Replay
pub mod Overwriting
pub mod Outcomes
