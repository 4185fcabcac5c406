-- Scale and convergence, but for the polynomial's derivative, worked at scale 2^60, and how near each is to the definition.
pub mod Root
pub mod Scale
pub mod Length
pub mod Convergence
pub mod Answers
