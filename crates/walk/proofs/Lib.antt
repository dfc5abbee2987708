pub mod Part
pub mod Told
pub mod Along
pub mod Keeping
