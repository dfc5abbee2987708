-- Laws of the store's calls.
--   Looks: what all calls judge first, and what follows where they go on (`look-told`).
--   Fitted: a greeting in a gap, or behind all that closed up (`fit-gap`, `fit-behind`).
--   Called: each call, from what its steps do.                   Only: no second answer fits a contract.
pub mod Looks
pub mod Fitted
pub mod Called
pub mod Only
