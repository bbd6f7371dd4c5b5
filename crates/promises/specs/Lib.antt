pub mod Marked
pub mod Demands
pub mod Behind
pub mod Bound
pub mod Before
pub mod Sets
pub mod Exposures
