-- Document 02, R-6, R-8 and R-11: the text of a store's table.
--   Table: R-6's three lines for each greeting, as they are written and as they are read.     Fills: a text read into a lent table.
--   Noted: R-8's lines: the same three, its law, its samples and its marks.     Form: R-11's first line.
--   Passing: R-8's lines in the code's steps, passed over and compared.     Held: the greetings of a lent table, to be written.
pub mod Table
pub mod Noted
pub mod Form
pub mod Fills
pub mod Passing
pub mod Held
