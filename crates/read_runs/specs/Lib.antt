pub mod Flagged
pub mod Reached
