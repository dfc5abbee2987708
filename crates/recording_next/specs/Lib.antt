-- A recording file piece by piece.
--   Next: what the heading tells, and one item at a place.      Followed: item after item, by the next place that each tells.
pub mod Next
pub mod Followed
