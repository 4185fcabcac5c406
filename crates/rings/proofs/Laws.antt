-- What is proved of the definitions; not needed to read the contracts.
--   Flat       corners of a flat list, by index (of ring_corners)
--   Accept     a list is accepted, with its corners, or refused (of ring_checks)
--   Calls      what a call answers once the checks are made; `position` is the nozzle of a ring that is not crossed
--   Standing   border and turning number in one pass
--   Crossed    the search for the first crossed pair, lower edge by lower edge
--   Parts      a ring made of corners of an accepted ring is accepted (for Demand)
--   Demand     demand 3 holds of the calls
pub mod Calls
pub mod Standing
pub mod Crossed
pub mod Parts
pub mod Demand
