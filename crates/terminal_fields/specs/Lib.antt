-- What the contracts of terminal_fields cite. Lent: what is owed for an answer. proofs/Laws: what is proved of it; not needed to read the contracts.
pub mod Lent
