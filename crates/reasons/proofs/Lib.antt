-- The lines in the code's steps (Lines); what the answer promises (Promises); its lines read back (ReadBack).
pub mod Lines
pub mod Promises
pub mod ReadBack
