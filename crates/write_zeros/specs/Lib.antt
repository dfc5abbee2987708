-- A frame of the two zeros.
pub mod Rice
