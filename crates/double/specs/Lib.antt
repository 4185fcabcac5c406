-- The definitions; what is proved of them is in proofs/Laws.
pub mod Value
pub mod Complex
pub mod Pairs
pub mod Exact
pub mod Bound
pub mod Steps
