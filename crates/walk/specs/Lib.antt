pub mod Walk
pub mod Seen
pub mod Walked
pub mod WalkedInto
pub mod Units
pub mod Reports
pub mod Headers
