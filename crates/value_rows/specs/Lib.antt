-- The rows of table 7-28 as the code has them.
pub mod Rows
