pub mod Hits
pub mod Clears
