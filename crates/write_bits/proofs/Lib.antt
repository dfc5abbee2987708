pub mod Words
pub mod Putting
pub mod Rice
pub mod Rows
pub mod Finishing
