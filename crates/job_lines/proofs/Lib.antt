-- What the proofs share: a line built up of texts and numbers (Printing).
pub mod Printing
