pub mod Kinds
pub mod Begun
pub mod Leaves
pub mod ListsLent
