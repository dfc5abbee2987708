-- Runs found.
pub mod Runs
pub mod Tracks
