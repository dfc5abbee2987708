-- Writing a recording file (document 02, R-1) on its way; what the public call answers stands in recording/specs/Calls.
--   Cells: a number of 16 bits as an entry, and what is given by all.      Steps: what the code's parts promise each other.
pub mod Cells
pub mod Steps
