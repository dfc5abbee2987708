-- The heading of a WAV file.
-- Masters of 16 bits.
pub mod Headings
pub mod Masters
pub mod Agreeing
pub mod Uses
