pub mod Compare
pub mod Exposure
pub mod Pictures
pub mod Take
pub mod Words
pub mod Torn
pub mod Moved
