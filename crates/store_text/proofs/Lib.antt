-- Laws of the text of a store's table.
--   Exact: a table of R-6's lines that is written is read back (`table-back`), and no other text is read so (`table-only`).
--   Noted: R-8's lines that are written are read back (`noted_back`), and no text with a greeting is of both kinds.
--   Formed: R-11's first line: read back, needed by the block's size, refused by older readers.
--   Only: no other text is read as a table of R-8's lines, with R-11's first line or without it.
--   Wider: lines without that line have no start and no count of octets above 65,535.
--   Lines: a greeting's lines in the code's steps.     Marks: its samples and marks, passed over and compared.
--   Reading, Noting: a text read into cells, of R-6's lines and of R-8's.     Writing: the text put, greeting by greeting.
pub mod Lines
pub mod Exact
pub mod Marks
pub mod Reading
pub mod Noting
pub mod Noted
pub mod Writing
pub mod Formed
pub mod Only
pub mod Wider
