pub mod Refusals
pub mod Bits
pub mod Codes
pub mod Answers
pub mod Put
pub mod Width
pub mod Windows
pub mod Copy
