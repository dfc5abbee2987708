-- A row is told by its key: `finding-hit`, `finding-miss`, `finding-end`.
-- The digits of samples: Digits. The number of a group's digits, and groups put one after another: Placing.
pub mod Keyed
pub mod Told
pub mod Digits
pub mod Placing
