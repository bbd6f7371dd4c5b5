pub mod AtMost
pub mod Tables
pub mod Stored
pub mod Left
pub mod Tidy
