-- A cut of power, with the one block that a box has.
--   Closing: closing up as moves, and how many writes they ask for.
--   Lasting: what lasts, a write, and what a cut may leave of it.     Writes: the order of writes of a move, a put, a delete and a start.
--   Runs: calls, cut or not, with a start after each, which may be cut too; what is promised of each.
--   Pages: the same, of pages as octets.
pub mod Lasting
pub mod Writes
pub mod Closing
pub mod Runs
pub mod Pages
