-- What runs need.
pub mod Measures
