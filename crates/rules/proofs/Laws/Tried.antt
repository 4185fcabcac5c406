-- The statements of Tried hold.
pub mod Files
pub mod Runs
pub mod Nozzles
pub mod Ponds
pub mod Series
pub mod Points
pub mod Limits
