-- The tests of a greeting, in the code's order: `bad-empty`, `bad-law`, `bad-long`, `bad-walked`.
-- Laws of marks.
--   Marked: the marks of frames after others.     Taking: a walk of 64 frames at a time.
--   Count: how many there are.                    Bounds: how large their numbers are.     Cases: greetings of pads, computed.
pub mod Bad
pub mod Marked
pub mod Taking
pub mod Count
pub mod Bounds
pub mod Cases
