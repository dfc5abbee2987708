-- A recording file piece by piece: as the code goes, Pieces; that item by item it is the file's reading, NextIs.
pub mod Pieces
pub mod NextIs
