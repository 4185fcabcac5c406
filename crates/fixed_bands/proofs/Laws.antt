-- What is proved of the definitions.
pub mod Examples
pub mod Polynomials
pub mod Models
pub mod Functions
pub mod Traces
pub mod Rows
pub mod Tests
pub mod Along
pub mod Checks
pub mod Bands
