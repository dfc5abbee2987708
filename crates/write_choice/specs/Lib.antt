-- The choice.
pub mod Plans
