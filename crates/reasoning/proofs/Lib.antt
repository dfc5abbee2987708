-- A tool's offer as its state (Telling); the winner and the tie from the states (Winning); the refusals in the code's steps (Refusing).
pub mod Telling
pub mod Winning
pub mod Refusing
