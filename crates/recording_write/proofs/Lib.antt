-- Cells: a number of 16 bits, and the entries that all give.     Forms: the octets of a form and of an item.
-- Put: a form that is written.     Way: the loops on their way.     Ordered: the refusals in their order, and the file.
pub mod Cells
pub mod Forms
pub mod Put
pub mod Way
pub mod Ordered
