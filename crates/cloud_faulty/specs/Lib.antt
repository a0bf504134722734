pub mod Faults
pub mod Layer
pub mod Making
pub mod Laws
