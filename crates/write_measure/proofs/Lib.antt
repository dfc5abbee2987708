pub mod Rice
pub mod Weighing
