-- What a writing reports.
pub mod Answers
