-- What the contracts of rings cite, and what is proved of it.
--   Answers    each kind of answer as the paper's; what the calls promise
--   Demand     demand 3 as a statement about the calls
--   Corners    a flat list of numbers as corners; what an accepted ring has (of ring_corners)
--   Standing   open or shut by the turning number
--   Found      a pair of edges as one number
--   Laws       laws; not needed to read the contracts
pub use Rattle.ring_corners.specs.Corners
pub mod Answers
pub mod Standing
pub mod Found
pub mod Demand
pub mod Laws
