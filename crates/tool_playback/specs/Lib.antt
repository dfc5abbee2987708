-- Sound and losses, part by part, of a recording (document 02, R-1) and of a stream, which is a recording without losses.
--   Heard: items from a place on.      Parts: what a part is.      Runs: part after part: what may be used next, and what the totals of a
--   whole file are.      Lines: what is told of an item.      Kinds: what a file is.
pub mod Heard
pub mod Parts
pub mod Runs
pub mod Lines
pub mod Kinds
