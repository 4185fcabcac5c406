-- What is proved of the definitions.
pub mod Ellipsoids
pub mod Sphere
pub mod Across
pub mod Along
pub mod Tilt
pub mod Mercator
pub mod Points
pub mod Sizes
