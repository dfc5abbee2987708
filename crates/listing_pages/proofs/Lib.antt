pub mod Steps
pub mod Turns
pub mod Openings
pub mod Whole
