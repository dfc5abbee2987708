-- What a frame looks like.
pub mod Looks
pub mod Rows
