pub mod TextLaws
pub mod Digits
pub mod Names
