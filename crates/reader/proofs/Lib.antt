pub mod Held
pub mod Filled
pub mod Told
pub mod Decided
pub mod Lent
pub mod Plainly
