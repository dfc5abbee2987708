pub mod Methods
pub mod Turns
pub mod Near
pub mod Rows
