pub mod UnitType
pub mod Header
pub mod Extension
