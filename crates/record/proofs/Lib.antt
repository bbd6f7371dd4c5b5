pub mod Taken
pub mod Round
pub mod Whole
