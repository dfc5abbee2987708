pub mod Finding
pub mod Leaving
pub mod Tracking
pub mod Values
