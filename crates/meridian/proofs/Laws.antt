-- Divided: models of quotients and roots. Steps: the definition's other steps. Followed: a whole band, from its test. Checks: every band passes.
-- Scale: on every latitude from 48° to 56° the scale before m0 lies within 10^-11 of 1 (`one-before-m0`), and after m0 that near to m0 (`scale-near-m0`).
pub mod Divided
pub mod Steps
pub mod Followed
pub mod Checks
pub mod Scale
