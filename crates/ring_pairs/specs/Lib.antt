-- What the contracts of ring_pairs cite, and what is proved of it.
--   Crossings  the crossing test as the code makes it
--   Laws       laws; not needed to read the contracts
pub mod Crossings
pub mod Laws
