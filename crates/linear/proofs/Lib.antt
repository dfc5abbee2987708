-- Laws: Logs, Segments, Sound, Signs, One, Frames. Paper: one definition over the constants is 001's equations.
-- Promises: Returns, Near, Order, Clips, Fits.
pub mod Logs
pub mod Segments
pub mod Sound
pub mod Paper
pub mod Signs
pub mod One
pub mod Frames
pub mod Returns
pub mod Near
pub mod Order
pub mod Clips
pub mod Fits
