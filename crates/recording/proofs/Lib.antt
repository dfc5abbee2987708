-- The promises of document 02, R-1.
--   Marks: lost-refused, never-lost, walk-lost, erased-loss.         Back: file-back, entries-pieces, as-read-frame, as-read-erased.
--   Returned: file-written-back, as-read-same, restored, returned.       Streams: items-of-walk.       Nested: items-nest, files-nest.
--   Headings: set-first, head-is, head-only.       Fits: only-read, only-write, endings-one-to-one.       Further: items-further, files-further.
pub mod Marks
pub mod Back
pub mod Returned
pub mod Streams
pub mod Nested
pub mod Headings
pub mod Fits
pub mod Further
