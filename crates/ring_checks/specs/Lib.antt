-- What the contracts of ring_checks cite, and what is proved of it.
--   Refusal    the number of a refusal
--   Checks     what the checks 6, 7 and 8 answer, and 7 and 8 along one axis
--   Reach      the number of what checks 7 and 8 answer, along one axis and of both, as the laws of proofs/Laws/Axis have it; no contract cites it
-- The laws are in proofs/Laws; not needed to read the contracts.
pub mod Refusal
pub mod Checks
pub mod Reach
