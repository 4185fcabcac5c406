-- What is proved of the answers; not needed to read the contracts.
--   Checked    the forward by what its checks said
--   Stood      what the code works with a row of its table, as the worked values of the paper's row
--   Right      every answer of the forward and of the inverse is right by the rules (of projection_worked)
--   Mirror     on either side of the central meridian they answer alike (of projection_worked)
pub mod Checked
pub mod Stood
pub use Rattle.projection_worked.proofs.Laws.Right
pub use Rattle.projection_worked.proofs.Laws.Mirror
