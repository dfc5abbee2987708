-- Document 02, R-12, "Mend a damaged greeting", in its words.
--   Mend: what is kept, what is filled, the result, and the refusals in their order.     Calls: the contract of the public call.
--   Why: how much would be kept, and why the walk stopped there.
pub mod Mend
pub mod Endings
pub mod Calls
pub mod Why
