-- What the contracts of ring_turning cite, and what is proved of it.
--   Touching   what an edge tells of a point: that it lies on it, or what the edge adds
--   Laws       laws; not needed to read the contracts
pub mod Touching
pub mod Laws
