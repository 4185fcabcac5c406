-- What the contracts of ring_boxes cite, and what is proved of it.
--   Boxes      the boxes of a ring's runs of edges
--   Laws       laws; not needed to read the contracts
pub mod Boxes
pub mod Laws
