-- Document 02, R-6, R-8 and R-11: a store's table saved and loaded.
--   Saved: what is written, what is taken, and the refusals in their order.     Calls: the contract of each public call.
--   Verdicts: whether a text is taken.     Steps: loading in the code's steps.
pub mod Saved
pub mod Verdicts
pub mod Calls
pub mod Steps
