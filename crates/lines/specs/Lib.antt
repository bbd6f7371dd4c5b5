pub mod Level
pub mod Text
pub mod Lines
pub mod Kinds
