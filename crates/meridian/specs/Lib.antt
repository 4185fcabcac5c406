-- The definition's scale on the central meridian.
--   Models   each of its steps followed along a band of a quarter of a degree, as a polynomial in the ticks and an error; the test of a band. All of it computes
--            (Numbers opens what computes)
-- proofs/Laws has what a model says, that every band passes its test, and that the scale before m0 is 1 there but for 10^-11 (Scale)
pub mod Models
pub mod Numbers
