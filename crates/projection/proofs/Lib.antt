-- Laws that the functions' proofs cite.
pub mod Checking
pub mod Locating
pub mod Parts
