-- Laws of what a store tells.
--   Telling: the calls' steps.     Only: no second answer, and each refusal in its order.     Promises: what a get gives, all greetings by
--   their places, the size, and the largest gap.
pub mod Telling
pub mod Only
pub mod Promises
