mod Asking
pub mod Carried
pub mod Freed
