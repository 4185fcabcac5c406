-- What is proved of the definitions.
pub mod Nearest
pub mod Shortened
pub mod Bits
pub mod Answer
pub mod Into
pub mod Steps
pub mod Scales
pub mod Plane
