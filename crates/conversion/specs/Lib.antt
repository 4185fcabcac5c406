-- What the conversion's contracts cite.
--   Codes      the checks of two codes
--   Plane      plane to plane after these checks
--   Ring       a whole ring
--   Laws       what is proved of them; not needed to read the contracts
pub mod Codes
pub mod Plane
pub mod Ring
pub mod Laws
