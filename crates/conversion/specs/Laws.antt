-- What is proved of the definitions; not needed to read the contracts.
--   Codes      the checks of two codes, where a code has a row and where not
--   Plane      plane to plane, by what the checks and the inverse said
--   Ring       a whole ring, by what the checks said, and what the loops over it keep
pub mod Codes
pub mod Plane
pub mod Ring
