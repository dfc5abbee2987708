pub mod Plainly
pub mod Poured
pub mod Told
pub mod WholeOctets
pub mod TwoZeros
