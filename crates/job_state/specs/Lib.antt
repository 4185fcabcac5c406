-- What the contracts of job_state cite.
--   Gathered  the corners as the rules' rings and as a flat list; what the checks of a corner and of a closed ring make of them
--   States    the job's struct as one of the rules' states, whatever it holds; the paper's number and values of each answer; a record's step
--   InPlace   what a record makes of every job that has the few numbers handed in, for the answers to a job that stays where it lies
-- What is proved of them is in proofs/Laws; not needed to read them.
pub mod Gathered
pub mod States
pub mod InPlace
