-- Document 02, R-8: the notes of a store's greetings, and how they lie in a lent table.
--   Notes: a note put in, taken out, and true to what the walk gives.     Cells: how they lie in a table of numbers, and back.
--   Sane: the tables that calls leave.                                    Changed: cells put in among those in use, and taken out.
pub mod Notes
pub mod Cells
pub mod Sane
pub mod Changed
