pub mod Cases
pub mod Sums
pub mod Unique
