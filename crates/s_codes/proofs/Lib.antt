pub mod Coded
pub mod Begun
