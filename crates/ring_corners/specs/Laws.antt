-- What is proved of the definitions; not needed to read the contracts.
--   Flat       corners of a flat list, by index
--   Signed     i64 values of the code, beside Laws.Machine of arith
--   Tests      tests joined by `&&`, and the test for zero by a sign
--   Sides      D by cases, and what an edge adds
--   Extremes   the smaller and the larger of two numbers
pub mod Flat
pub mod Signed
pub mod Tests
pub mod Sides
pub mod Extremes
