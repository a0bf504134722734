pub mod Turns
pub mod Window
pub mod Padding
pub mod Chaining
