-- What the contracts of fields cite, and what is proved of it.
--   Checks     what the checks of a field's numbers answer
--   OfRing     a refusal of a ring by itself, said of a ring of a field
--   Walks      where a point stands to a field's rings, ring by ring
--   Placed     a ring that comes to the rings of a field
--   Laws       laws; not needed to read the contracts
pub mod Checks
pub mod OfRing
pub mod Walks
pub mod Placed
pub mod Laws
