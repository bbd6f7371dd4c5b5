pub mod Deltas
pub mod Sized
pub mod Parts
pub mod Bound
pub mod Fullest
pub mod Has
pub mod Reaching
pub mod InWords
