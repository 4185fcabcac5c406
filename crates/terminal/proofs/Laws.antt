-- What is proved of the calls; not needed to read the contracts.
--   Lent       a call's promises by the answer that the library gave
--   Edges      the edge numbers of refusal 9 fit what C lends
--   Zero       a call that returns 0 has answered
--   Calls      so of the four calls of the projection; and what every call returns is 0 or in use
--   EastWest   two calls on either side of the central meridian answer alike
pub mod Lent
pub mod Edges
pub mod Zero
pub mod Calls
pub mod EastWest
