-- What is proved of the definitions; not needed to read the contracts.
--   Nine       the numbers that refusal 9 of a field carries are small, so an i64 holds them
--   Handed     four numbers that are handed on (of terminal)
--   Held       so an i64 holds what is written of any refusal
pub mod Nine
pub mod Held
pub mod Handed
