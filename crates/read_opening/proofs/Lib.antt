pub mod Six
pub mod Opened
