-- Laws of the store's list of greetings and of its image in cells.
--   Lists: lists that agree from a place on; tests in a chain.     Shifting: numbers moved down in a list, front to back.
--   Cells: `rows_snoc`, `cells-rows`, `rows-laid`, `laid-again`.
--   Coming: the rows that cells hold, one after another.          Left: the rows of a table from one on.
--   Finding: `find_absent`, `place-told`, and the loops that look and count.
--   Judged: `sane-ordered`, `rising-next`, and the loops that judge.
-- Laws of putting a row in and taking it out.
--   Laying: a row's cells laid, octets copied.     Changing: `inserted`, `removed`: what is left is a table of the list so
--   changed.
-- Laws of closing up.
--   Hopping: many octets moved down at once (`hop-all`, `shift-on`).     Closed: row by row (`close-turn`, `close-all`).
pub mod Lists
pub mod Shifting
pub mod Cells
pub mod Coming
pub mod Left
pub mod Rising
pub mod Finding
pub mod Judged
pub mod Laying
pub mod Changing
pub mod Hopping
pub mod Closed
