pub mod Plainly
pub mod Bodied
