-- What the proofs share: the held bytes (Holding), one record and the end of the file (Advance), one byte (Turning), and the loop over a chunk (Looping).
pub mod Holding
pub mod Advance
pub mod Turning
pub mod Looping
pub mod Laws
