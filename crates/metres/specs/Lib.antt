-- The definitions, and in Laws what is proved of them.
pub mod Metres
pub mod Millimetres
pub mod Laws
