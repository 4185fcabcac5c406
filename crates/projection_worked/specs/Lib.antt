-- The worked values of the projection, and how near they are to the rules' definition.
--   Worked    the forward
--   Inverse   the inverse
--   Steps     every double on the way, and that all are finite
--   Bounds    how large the numbers between the steps are
-- proofs/Laws has how near the worked values are to the definition's; `right` of Right there: every answer of the forward and of the inverse is right by the rules
pub mod Worked
pub mod Inverse
pub mod Steps
pub mod Bounds
