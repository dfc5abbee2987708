pub mod OneBit
pub mod ZeroRun
pub mod Leading
pub mod Window
pub mod InWord
pub mod Cut
pub mod Told
pub mod Shift
