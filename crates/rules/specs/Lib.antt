-- Document 01 as definitions, in its words. Its sections:
--   "The part of G.711.0 we carry": Tools.        "Numbered refusals": Judged (in order), Refusals.
--   "First octet": First.                         "Samples as signed numbers": Samples.
--   "Bodies": Bits and Reading (what bits and reading are), Runs, Zeros (tools 1 to 6), Located (tool 7).
--   Document 02, R-14: Fractional (tool 11, by 001), Equations (001's own, as printed).
--   The order of refusals in a frame: Frame.      "What the writer chooses": Chooses.
--   "Walk and listing": Walk, Listing.            "Marked cases": Marked.
--   "How far each contract reaches": Calls, the contract of each public call.
pub mod Judged
pub mod Refusals
pub mod Tools
pub mod Bits
pub mod Reading
pub mod First
pub mod Samples
pub mod Runs
pub mod Zeros
pub mod Located
pub mod Fractional
pub mod Equations
pub mod Frame
pub mod Chooses
pub mod Walk
pub mod Calls
pub mod Listing
pub mod Marked
