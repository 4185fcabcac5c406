-- Refused: a refusal ends the checks. Not needed to read the contracts.
pub mod Refused
