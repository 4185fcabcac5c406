-- What is proved of the definitions; not needed to read the contracts.
--   Spans      what the loop over the corners of a run keeps
--   Axes       the same axis by axis
--   Stored     a corner that is stored in a flat list
--   Filled     the boxes, run by run
pub mod Spans
pub mod Axes
pub mod Stored
pub mod Filled
