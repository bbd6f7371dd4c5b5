pub mod Reading
pub mod Unique
pub mod Fronts
pub mod Begun
pub mod Emptied
pub mod Tidy
pub mod Lent
pub mod Prefixed
