-- What is proved of the definitions.
pub mod Examples
pub mod Rounded
pub mod Scale
pub mod ScaleBand
pub mod Convergence
