-- What is proved of settings that can be put back (document 02, R-13).
--   Promises: over any list of calls from a fresh state (`kept-true`, `newest-kept`, `eight-kept`, `saved-reads`), of a text (`text-back`)
--     and of the wipe (`wipe-empties`).
--   Fits: no second answer fits a call's contract (`only-adds`, `only-prints`, `only-wipe`, `answers-one-to-one`).
--   Lines: the text is read back, and no other text is read so (`settings-back`, `settings-only`).
--   Telling: what the numbers tell, nothing changed (`kept-got`, `Got-kept`, `got-text`, `only-get`, `only_kept`).
--   Calls, State, Revisions: the contracts, the 41 numbers and the list that they hold, in the code's steps.
pub mod Lines
pub mod State
pub mod Revisions
pub mod Calls
pub mod Promises
pub mod Fits
pub mod Telling
