-- What the contracts of the line writer cite.
pub mod Said
