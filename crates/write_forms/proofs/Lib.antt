pub mod Pieces
pub mod Values
pub mod Ways
pub mod Turns
pub mod Whole
pub mod Form
