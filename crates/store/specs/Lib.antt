-- Document 02, R-6, "A greeting store that fills its gaps", in its words.
--   Store: put, get and delete over a block and the list of its greetings.
--   Calls: the same over a lent block and a lent table of any content, and the contract of each public call.
--   Looking: what all calls judge first, and a put, in the code's steps.
pub mod Store
pub mod Calls
pub mod Looking
