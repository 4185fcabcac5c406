-- What the contracts of job_lines cite.
--   Printed   what an answer prints, and what a line says
pub mod Printed
