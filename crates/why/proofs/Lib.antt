pub mod Showing
pub mod Cutting
