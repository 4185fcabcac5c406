-- Zones: what the code's row of a system stands for. proofs/Laws: what is proved of it; not needed to read the contracts.
pub mod Zones
