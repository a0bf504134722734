pub mod Places
pub mod Making
