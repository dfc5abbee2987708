-- Reading a recording file, as the code goes.
--   Turns: one item.      Plays: what reading items from a place on reports, and what a heading says.
pub mod Turns
pub mod Plays
