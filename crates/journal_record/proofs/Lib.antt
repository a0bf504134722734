pub mod Reading
pub mod Valid
pub mod ReadBack
pub mod OnlyRecords
pub mod Lengths
