-- What the proofs of the record reader share.
pub mod Laws
