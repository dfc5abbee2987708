-- Filling: the filling, put as the code puts it.     Kept: what a walk keeps is within its octets and its room.
-- Ordered: the refusals in their order.             Answers: an answer of the code is the definition's.
-- Rooms: a walk by another room.     Joined: streams joined, and what a walk keeps.     Filled: the filling, walked.
-- Marked: cases worked out by hand.
-- Judged: the refusals in their order.     Promises: what is kept, the result, undamaged greetings, mending twice.
pub mod Filling
pub mod Kept
pub mod Ordered
pub mod Answers
pub mod Rooms
pub mod Joined
pub mod Filled
pub mod Judged
pub mod Promises
pub mod Marked
