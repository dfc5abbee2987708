-- Document 02, R-9, "Jump to a second": what is sought in a greeting.
--   Seeking: the frame that holds a sample, among the frames of a walk; the last mark at or before a sample.
--   Halves: one halving, in the code's steps.
-- Document 02, R-9, "Jump to a second".
--   Jump: from the mark to the frame, and the refusals in their order.     Calls: the contract of the public call.
--   Whole: the result that a whole walk gives.
pub mod Seeking
pub mod Halves
pub mod Jump
pub mod Calls
pub mod Whole
