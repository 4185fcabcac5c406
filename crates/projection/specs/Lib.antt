-- What the projection's contracts cite.
--   Answers          the paper's number and values for each case of the code's answers
--   Located          what the code knows of a point that is taken
--   Worked, Inverse  the worked values (of projection_worked)
--   Laws             what is proved of them; not needed to read the contracts
pub mod Answers
pub use Rattle.projection_worked.specs.Worked
pub mod Located
pub use Rattle.projection_worked.specs.Inverse
pub mod Laws
