-- Fixed point at scale 2^60: Worked has the arithmetic as it is worked, Nearness says how near a number is to the definition's, Relations what the numerics
-- know of the arithmetic, and Laws what the laws of proofs/Laws speak of.
pub mod Worked
pub mod Nearness
pub mod Relations
pub mod Laws
pub mod Tables
