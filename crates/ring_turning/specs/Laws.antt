-- What is proved of the definitions; not needed to read the contracts.
--   Turning    what the loop of the turning number keeps
--   Touching   a point on an edge, or what the edge adds, by the sign of D
pub mod Turning
pub mod Touching
