pub mod Given
pub mod Write
pub mod Places
pub mod Stages
pub mod Before
