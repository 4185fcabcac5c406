-- What is proved of the worked numbers. Bands, Waves, Heron and Seed are laws over any numbers; the others take the steps of the inverse in their order: Radius
-- (p and q), Turns (their functions, and d), Roots, Sphere and About52 (the sphere's latitude), Latitude (B), Ticks, and Inverse, which has the whole.
pub mod Examples
pub mod Bands
pub mod Waves
pub mod Heron
pub mod Seed
pub mod Radius
pub mod Turns
pub mod Roots
pub mod Sphere
pub mod About52
pub mod Latitude
pub mod Ticks
pub mod Inverse
pub mod Mirror
