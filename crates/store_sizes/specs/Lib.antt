-- Document 02, R-11 and R-13 together.
--   Sizes: the size of a box's block, from its settings.
pub mod Sizes
