-- Document 02, R-6, R-8 and R-11, over any list of calls from a fresh block.
--   Rising, Numbers: greetings in order and apart; numbers used once.     Contents: what is read after closing up and after a writing.
--   Along: greetings and their notes, side by side.                       Gaps: a gap that is found, and that no lower place is clear.
--   Granted: what an accepted put, delete or get tells.                   Looked: what is read under a number.
--   Stays: octets that stay. Moved: octets moved.                         Notes: each number's note, after each call and any calls.
--   Listed, Loaded: the order of loading, and what it tells.              Sayable: what is saved can be loaded.
--   Promises: the promises, each by its name.                             Formed: R-11's, of saved tables.
--   Texts: what a load takes is the text of its table, and no other.      Long: how long the text can be.
--   Placed: where a put's greeting stands.                                Reading: each number's octets, after any calls.
--   Laws: both laws' walks give the same samples and marks.
-- Document 02, R-9, over any list of calls from a fresh block.
--   Pairs: a greeting that is there, and its note.     Jumps: what a jump into it tells.
--   Began: all of this of a store that begins with a load, whatever its table held.
pub mod Rising
pub mod Numbers
pub mod Contents
pub mod Along
pub mod Gaps
pub mod Granted
pub mod Looked
pub mod Stays
pub mod Moved
pub mod Notes
pub mod Listed
pub mod Loaded
pub mod Sayable
pub mod Promises
pub mod Formed
pub mod Pairs
pub mod Jumps
pub mod Placed
pub mod Reading
pub mod Began
pub mod Texts
pub mod Long
pub mod Laws
