pub mod Steps
pub mod Cases
pub mod Answers
pub mod Units
pub mod SetBodies
