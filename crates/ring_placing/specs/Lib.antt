-- What the contracts of ring_placing cite beside the definitions of the rules and of the crates below, and what is proved of it.
--   Around     a box of all of a ring
--   Beside     a run of edges that adds nothing to the turning number of a point
--   Laws       laws; not needed to read the contracts
pub mod Around
pub mod Beside
pub mod Laws
