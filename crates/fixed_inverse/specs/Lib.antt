-- The inverse from Mercator's x and y to ticks, at scale 2^60. Worked has each number as it is worked; Laws has what contracts name of how near it is to the definition's, which proofs/Laws shows.
pub mod Worked
pub mod Examples
pub mod Laws
