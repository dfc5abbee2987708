pub mod Cuts
pub mod SoundParts
pub mod Packing
pub mod Parts
