-- The laws of reading a recording file.
--   Erasing: a frame judged by its first sample.      Turning: one item, as the code takes it.      Steps: items one by one.
--   Parts: items-parts, items-told, items-fuel, items-roomy, items-piece, for a caller that reads by parts.      Playing: the loop's
--   invariant.
--   Whole: the heading, and the order of what refuses a file.
pub mod Erasing
pub mod Turning
pub mod Steps
pub mod Parts
pub mod Playing
pub mod Whole
