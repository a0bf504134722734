pub mod Words
pub mod Rounds
pub mod Message
pub mod Value
pub mod Widths
pub mod InRange
