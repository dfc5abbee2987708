-- Document 02, R-6, "A greeting store that fills its gaps": the list of greetings, and how it lies in a lent table.
--   Limits: the store's numbers, each under one name.          Rows: the greetings of a block, and the octets held.
--   Finding: a number among them, and the lowest gap.          Cells: how the list lies in a table of numbers, and back.
--   Sane: the tables that calls leave.                         Changed: a row put in, a row taken out.
-- Document 02, R-6: closing up.
pub mod Limits
pub mod Rows
pub mod Finding
pub mod Cells
pub mod Sane
pub mod Changed
pub mod Closing
