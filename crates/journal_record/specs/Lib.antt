pub mod Records
pub mod Layout
pub mod Written
pub mod Parse
pub mod Laws
