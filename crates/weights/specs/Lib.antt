pub mod Counts
pub mod Halves
pub mod Steps
pub mod WeightsLent
