-- Document 02, R-6 and R-8: what is promised of a store over any list of calls.
--   Told: a list of calls from a fresh block, and the octets put and deleted.
--   Loading: a text that is read, and the order of its refusals.
--   Kept: what a store reads under a number, its note, which places are clear, which octets stay, and which have moved.
--   Long: how long a saved table can be.
-- Document 02, R-9: what a jump into a store of greetings tells, and when.
pub mod Told
pub mod Kept
pub mod Loading
pub mod Jumped
pub mod Long
