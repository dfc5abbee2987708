pub mod Settling
pub mod Planning
pub mod Even
