pub mod Marks
pub mod Lists
pub mod Context
pub mod SliceHeader
pub mod Before
pub mod Prefix
pub mod Absent
pub mod Sample
