pub mod Putting
pub mod Spelling
