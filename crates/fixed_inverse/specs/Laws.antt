-- What contracts and laws name of the steps of the inverse, in their order: Radius (p and q), Turns (their functions, and d), Roots and About52 (the sphere's
-- latitude), and Inverse; Heron is over any numbers. The laws are in proofs/Laws.
pub mod Heron
pub mod Radius
pub mod Turns
pub mod Roots
pub mod About52
pub mod Inverse
