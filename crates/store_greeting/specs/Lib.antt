-- Document 02, R-6: what may be a greeting.
-- Document 02, R-8, "Marks inside a greeting".
--   Marks: what is kept of a greeting, read off the frames that its walk delivers.     Taking: the same, taken as the walk goes.
pub mod Bad
pub mod Marks
pub mod Taking
