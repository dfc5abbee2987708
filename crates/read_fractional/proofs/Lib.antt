-- Digits laid as samples: Laying. Groups read one after another: Turning. Where R' is 2 they are bits: Bitwise. A row's samples: Rowed.
pub mod Laying
pub mod Turning
pub mod Bitwise
pub mod Rowed
