pub mod Texts
pub mod Numbers
pub mod Endings
pub mod Names
pub mod Refusals
pub mod Arguments
