-- What a contract of another crate names of the laws; what is proved of the rules stands in proofs/Laws.
pub mod Fields
