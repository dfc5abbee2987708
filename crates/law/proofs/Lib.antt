pub mod Turned
pub mod Mask
