pub mod Framed
pub mod Walked
pub mod Convert
