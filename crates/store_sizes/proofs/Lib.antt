-- Document 02, R-11 and R-13 together.
--   Sizes: the size of a box's block after each call.     Larger: what was saved at one size loads at every larger one.
pub mod Sizes
pub mod Larger
