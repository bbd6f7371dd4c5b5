pub mod Types
pub mod FirstByte
pub mod ThreeBytes
pub mod Examples
