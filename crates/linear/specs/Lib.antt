-- 001, section 6.8.1 and 6.8.2, in its words: Equations. The same once for both laws, over the law's constants: Constants.
-- A frame converted, and the contract of each public call: Calls.
pub mod Equations
pub mod Constants
pub mod Calls
