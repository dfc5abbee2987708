-- Rows: the samples of a row.     Filled: what is laid into the lent samples.
pub mod Rows
pub mod Filled
