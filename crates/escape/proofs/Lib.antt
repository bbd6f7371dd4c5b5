pub mod Runs
pub mod Bodies
pub mod Examples
