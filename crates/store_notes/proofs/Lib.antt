-- Laws of notes.
--   Opening: cells put in and taken out.                      Noting: notes and the cells that they lie in.
--   Stored: a note put in and taken out of a table.           Matched: tables that calls leave, and room for their marks.
--   Held: what is stored is read.                             Pairs: greetings and their second list, one by one.
--   Taken: what was taken of a greeting's walk, to be put in.
pub mod Opening
pub mod Noting
pub mod Stored
pub mod Matched
pub mod Held
pub mod Pairs
pub mod Taken
