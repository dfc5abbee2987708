pub mod Answers
pub mod Taken
