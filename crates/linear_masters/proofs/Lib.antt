-- One value and one sample: Values. A frame through a master and back: Back.
pub mod Values
pub mod Back
