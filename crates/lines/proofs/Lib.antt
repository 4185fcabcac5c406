-- What the proofs of the line writer share.
pub mod Spelling
pub mod Copying
pub mod Sizes
