pub mod Tests
pub mod Looking
pub mod Spreading
pub mod Extents
pub mod Rows
