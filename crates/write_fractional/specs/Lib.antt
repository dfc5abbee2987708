-- Rows by one number.
-- The digits of a frame.
pub mod Keys
pub mod Digits
