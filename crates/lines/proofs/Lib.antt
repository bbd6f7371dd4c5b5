pub mod Texts
pub mod Decimals
pub mod Magnitudes
pub mod Levels
pub mod Lent
