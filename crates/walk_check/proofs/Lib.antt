-- A check is the walk with enough room: Checked.
pub mod Checked
