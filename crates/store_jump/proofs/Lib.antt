-- Laws of what is sought in a greeting.
--   Halving: one halving keeps what is found.     LastMark: it is the last mark at or before the sample (`last-mark-is`, `last-mark-only`).
--   Along: seeking on its way.                    Sought: the frame that holds a sample (`seek_finds`, `holds-only`), among frames after
--   others.
-- Laws of a jump.
--   Steps: each step, from what the code does.     Only: no second answer fits the contract; at most 64 frames are read.
--   Whole: the result is the one that a whole walk gives.
pub mod Halving
pub mod Along
pub mod LastMark
pub mod Sought
pub mod Steps
pub mod Only
pub mod Whole
