-- What a store tells of itself, nothing changed.
--   Tells: what is told of a greeting, and of all of them.     Calls: the contract of each public call.
pub mod Tells
pub mod Calls
