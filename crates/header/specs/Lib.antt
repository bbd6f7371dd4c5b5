pub mod Kinds
pub mod Lead
pub mod Stages
pub mod Short
pub mod Told
