pub mod AnySet
pub mod Seams
pub mod Firsts
pub mod Bytes
pub mod Fronts
pub mod Tails
