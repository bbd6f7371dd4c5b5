pub mod Scan
pub mod Clear
