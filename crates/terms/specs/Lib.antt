-- What the contracts of all crates cite of the shared words: what each stands for in the rules.
--   Numbers     the number of each refusal
--   Papers      a corner, an ellipsoid, a position and an answer as the rules have them
pub mod Numbers
pub mod Papers
