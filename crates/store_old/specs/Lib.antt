-- Document 02, R-11: the older reader of a store's table.
--   Old: the reader as it stood, with the tools of its walk as a parameter.
pub mod Old
