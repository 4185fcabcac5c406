-- What the contracts of ring_corners cite, and what is proved of it.
--   Corners    a flat list of numbers as corners; what an accepted ring has
--   Sides      the sign of D, and what an edge then adds to the turning number
--   Laws       laws; not needed to read the contracts
pub mod Corners
pub mod Sides
pub mod Laws
