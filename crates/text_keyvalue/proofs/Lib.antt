-- Laws of text in key=value lines.
--   Exact: reading undoes writing (`back-line`, `back-ranged`), and nothing else reads so (`line-only`, `ranged-only`).
--   Decimals: the same of a number (`decimal-back`, `decimal-only`).
--   Numbers, Words, Lines: a number, a word and a line in the code's steps.
pub mod Numbers
pub mod Words
pub mod Decimals
pub mod Lines
pub mod Exact
