-- Document 02, R-10, "Say why this tool", in its words.
--   Why: the state of each tool, the winner, by what it won; the refusals.     Lines: the lines of an answer.
--   Calls: the contract of the lines.
pub mod Why
pub mod Lines
pub mod Calls
