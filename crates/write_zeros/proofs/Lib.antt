pub mod TwoZeros
pub mod Turning
