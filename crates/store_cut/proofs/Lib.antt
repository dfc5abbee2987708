-- A cut of power loses no greeting: over any list of calls and cuts, `Runs.loses-none`, `Runs.from-fresh`.
--   Reading: what greetings read where the block is torn, or one of them moved.     Stands: what lasts, and the store that it stands for.
--   Steps: the steps of a move, cut anywhere.     Cut: a start (`resume`), a move, closing up, a put and a delete, cut anywhere.
--   Closing: the moves end at what closing up leaves (`moves-close`), all octets of the block (`closing-block`).
--   Calls: the promise over the calls of a store (`delete-promise`, `put-promise`).     Tables: between two moves, and renumbered.
--   Puts: a put as one order of writes, and what it tells (`put-tells`).     Replaced: a replace (`replace-whole`).
--   Counted: how many writes a move and a put ask for (`put-few`).     Pages: pages as octets (`pages-lose-none`).
pub mod Reading
pub mod Stands
pub mod Steps
pub mod Cut
pub mod Closing
pub mod Calls
pub mod Tables
pub mod Puts
pub mod Runs
pub mod Replaced
pub mod Counted
pub mod Pages
