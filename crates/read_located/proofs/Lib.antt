pub mod Width
pub mod Counted
pub mod Laying
pub mod Listing
pub mod Methods
pub mod OneValue
pub mod Rows
pub mod InTurn
