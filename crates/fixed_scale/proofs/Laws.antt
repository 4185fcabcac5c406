-- What is proved of the definitions.
pub mod Root
pub mod Ratios
pub mod Scale
pub mod Length
pub mod Convergence
pub mod Answers
