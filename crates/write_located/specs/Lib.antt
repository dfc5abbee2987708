-- Value-location.
pub mod Ways
pub mod Rows
