-- What is proved of the definitions; not needed to read the contracts.
--   Nearness   corners of an accepted ring are near one another
--   Crossings  the test of two edges, by the tests that the code makes
--   Search     the search for the first edge that makes a pair with a given one, step by step
--   Runs       runs of edges that are passed whole
pub mod Nearness
pub mod Crossings
pub mod Search
pub mod Runs
