-- What the terminal's contracts cite. Lent: what is owed for an answer. EastWest: two calls on either side of the central meridian. Returned: the numbers that the calls return.
-- proofs/Laws: what is proved of them; not needed to read the contracts.
pub mod Lent
pub mod EastWest
pub mod Returned
