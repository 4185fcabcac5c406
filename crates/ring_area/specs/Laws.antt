-- What is proved of the definitions; not needed to read the contracts.
--   Area       the sum seen from the first corner is the paper's, and what its loop keeps
pub mod Area
