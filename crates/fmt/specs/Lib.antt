pub mod Fmt
pub mod Leaves
pub mod Arrays
pub mod Put
pub mod Reads
