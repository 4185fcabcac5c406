-- What is proved of the definitions; not needed to read the contracts.
--   Meeting    a test of each edge of a ring, and edges of two rings that meet
--   Placing    where the first corner of a ring lies
--   Apart      two rings whose boxes have no point in common
--   Turned     runs of edges that add nothing to the turning number of a point
pub mod Meeting
pub mod Placing
pub mod Apart
pub mod Turned
