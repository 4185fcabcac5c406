-- What the laws of the worked numbers speak of; the laws are in proofs/Laws.
pub mod Products
pub mod Turned
pub mod Series
pub mod Nested
pub mod Quotients
pub mod Roots
pub mod Tangents
pub mod Functions
pub mod Numbers
