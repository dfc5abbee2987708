-- Text of key=value lines (document 02, R-6): "decimal without leading zeros, each ended by octet 0A".
--   Reading: what it is to read a text, a word, a number.    Lines: a line, as it is written and as it is read.
pub mod Reading
pub mod Lines
