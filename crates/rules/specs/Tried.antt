-- What the definitions compute to, each statement by itself; Laws.Tried has the proofs.
--   Files     the job files J, the bow tie and short ones, with what is printed for them
--   Runs      the numbers to run, the order of refusals, the rounding
--   Nozzles   nozzle answers of the square and of the bow tie
--   Ponds     a field with a pond and a barn, rings badly placed, the order of a field's refusals
--   Series    each cut series at one argument, with all digits
--   Points    two points of each code, forward and inverse, unrounded with all digits
--   Limits    each code's half-width and each side of its box, taken at the end and refused beyond it
-- Kinds has what they say of an answer. Series, Points and Limits are made by reference/tried.py from programs that share nothing with these definitions.
pub mod Kinds
pub mod Files
pub mod Runs
pub mod Nozzles
pub mod Ponds
pub mod Series
pub mod Points
pub mod Limits
