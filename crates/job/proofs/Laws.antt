-- What is proved of the definitions; not needed to read them.
--   Bytes     of Machine: bytes after bytes, chunks after chunks, and after a refusal nothing
--   Structs   of the run's struct: bytes after bytes, and a run that is stopped stays as it is
--   Whole     THE WHOLE FILE: for every file, however it is cut, the machine prints exactly the rules' job
--   Calls     the same of the calls themselves
--   Alike     runs that have come equally far answer alike, and a call allows one result
pub mod Bytes
pub mod Structs
pub mod Whole
pub mod Calls
pub mod Alike
