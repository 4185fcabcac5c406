-- What is proved of the definitions; not needed to read the contracts.
--   Steps      checks one after the other, as `?` makes them
--   Axis       checks 7 and 8, axis by axis, and what their loop keeps
--   Accept     the checks 6, 7 and 8 as the code makes them; a list is accepted, with its corners, or refused
pub mod Steps
pub mod Axis
pub mod Accept
