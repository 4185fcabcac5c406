-- What the contracts of the record reader cite (Kinds, Reader), and what is proved of it (Laws).
pub mod Kinds
pub mod Reader
pub mod Laws
