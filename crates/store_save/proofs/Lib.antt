-- Laws of saving and loading.
--   Bad: greetings judged one by one.     Compared: samples and marks compared one by one.     Judging: TABLE, BAD, TABLE.
--   Small: what is taken of a greeting.     Storing: notes laid into a table one after another.     Holding: what a verdict leads to.
--   Loading, Saving: the calls in the code's steps.     Fits: each contract leaves one answer.
pub mod Bad
pub mod Compared
pub mod Judging
pub mod Small
pub mod Walking
pub mod Storing
pub mod Holding
pub mod Loading
pub mod Saving
pub mod Fits
