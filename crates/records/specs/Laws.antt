-- What is proved of the definitions; not needed to read them.
-- Kinds: what the rules' search for a kind can give.
pub mod Kinds
