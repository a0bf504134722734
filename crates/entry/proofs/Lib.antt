pub mod Sets
pub mod Lists
pub mod Bytes
pub mod Valid
