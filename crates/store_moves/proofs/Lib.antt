-- Laws of a move that a cut may stop.
--   Torn: a step that was cut, made again.     Moved: steps until still make the move as a whole.     Resumed: so they do after any cuts.
--   Stepping: a step as the code makes it.     Worded: the record's words read and written.     Started: a start over the words.
--   Calling: the calls' steps over a table.
pub mod Torn
pub mod Moved
pub mod Resumed
pub mod Stepping
pub mod Worded
pub mod Started
pub mod Calling
