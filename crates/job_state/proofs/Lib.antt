-- What the proofs share: of a refusal (Refusals), of a field that is read (Fields), of the ring and field calls (Flat, Inner), of what a record makes of a state (Limits, Steps), and of the
-- answers in place (InPlace).
pub mod Refusals
pub mod Fields
pub mod Flat
pub mod Limits
pub mod Inner
pub mod Steps
pub mod InPlace
pub mod Laws
