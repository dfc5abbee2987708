-- Document 02, R-13, "Settings that can be put back", in its words.
--   Lines: the text of settings, as it is written and as it is read.     Revisions: the list that a box keeps.
--   State: how that list lies in 41 lent numbers.                        Calls: the contract of each public call.
--   Gathers: what the steps of a save leave.                             Told: a list of calls, and what they have saved.
--   Tells: what the numbers tell, nothing changed.
pub mod Lines
pub mod Revisions
pub mod State
pub mod Gathers
pub mod Answers
pub mod Calls
pub mod Told
pub mod Tells
