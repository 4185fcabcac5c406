-- The forward steps up to Mercator's pair, worked at scale 2^60, and how near each is to the definition.
pub mod Ellipsoids
pub mod Sphere
pub mod Across
pub mod Along
pub mod Tilt
pub mod Mercator
pub mod Points
pub mod Sizes
