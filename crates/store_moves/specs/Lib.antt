-- A cut of power, with the one block that a box has: closing up as moves of one greeting each, a move as chunks, and what a cut may leave.
--   Moves: a step of a move, what a cut may leave of it, and the block in the end.     Record: the eight words that change in one write.
--   Next: the next move of closing up, a greeting moved, a greeting renumbered.     Calls: the contract of each public call.
pub mod Moves
pub mod Record
pub mod Next
pub mod Calls
pub mod Steps
