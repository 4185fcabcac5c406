-- What is proved of the definitions; not needed to read the contracts.
--   Rows       a row's rule by one computed test
--   Limits     the tests of refusals 3 and 4 as the code makes them, against the paper's
--   Points     the checks 2 and 3 of a point
pub mod Rows
pub mod Limits
pub mod Points
