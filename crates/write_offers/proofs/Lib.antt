pub mod Choosing
pub mod Offering
pub mod Frames
