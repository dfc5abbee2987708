-- The forms, as planned.
pub mod Ways
pub mod Forms
