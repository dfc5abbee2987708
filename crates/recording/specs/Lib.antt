-- Document 02, R-1, "Recordings from studios": the G.711.0 storage file of RFC 7655.
--   Remembered: the heading and the two marks of a lost frame; the one place to change for a person with the RFC at hand.
--   Items: a file read: its frames and losses.      Files: a file written.      Calls: the contract of each public call.
pub mod Remembered
pub mod Endings
pub mod Items
pub mod Files
pub mod Calls
