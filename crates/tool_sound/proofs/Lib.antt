-- A heading step by step, as the code goes: Steps. What is written reads back: Back.
-- Octets in pairs: Pairs. One value and its octets: Values. A recording through a master and back: Back.

pub mod Steps
pub mod HeadingBack
pub mod Pairs
pub mod Values
pub mod Back
pub mod Agrees
pub mod Shift
