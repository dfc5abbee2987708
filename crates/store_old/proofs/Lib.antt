-- Document 02, R-11, the older reader's promises.
--   Accepted: greetings that its walk accepts are judged by the walk of today as by its own (`walk-alike`, `load-alike`).
--   Reader: what it refuses (`old-refuses`), reads as the new one does (`old-alike`, `old-takes`), and finds BAD (`old-bad`).
--   Cases: a greeting of tool 11, BAD to it.
pub mod Accepted
pub mod Reader
pub mod Cases
