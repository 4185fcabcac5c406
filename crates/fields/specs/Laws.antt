-- What is proved of the definitions; not needed to read the contracts.
--   Cut        the numbers of each ring, by the counts of the rings before it
--   Inner      the checks of an inner ring's numbers
--   Calls      6 before all else, and the calls of the rings
--   OfRing     a refusal of a ring by itself, said of a ring of a field
--   Placed     the rings of a field, one more at a time
--   Joining    one inner ring more, by the crossing test and by where it lies
--   Outer      a field's acceptance by what is said of its outer ring
--   Accepting  what the loop that accepts them keeps
--   Reading    what the loop that reads a field again keeps
--   Tangled    what the loop that holds a ring against the inner ones keeps
--   Walks      the walk over the rings gives the rules' answer
pub mod Cut
pub mod Inner
pub mod Calls
pub mod OfRing
pub mod Placed
pub mod Joining
pub mod Outer
pub mod Accepting
pub mod Tangled
pub mod Reading
pub mod Walks
