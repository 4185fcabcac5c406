-- What the job's contracts cite, from one record to a whole file. The state and a record's step are in job_state, the lines in job_lines.
--   Machine   the worked value of a job over bytes: how far it has come, what a byte, a chunk and the end of the file make of it
--   Runs      what the run's struct stands for in those terms, what bytes make of the struct itself, and what the calls over chunks promise
--   Passages  the passage through a chunk that leaves the job where it lies: what a byte makes of it, and what it asks of the job
-- What is proved of them is in proofs/Laws; not needed to read them.
pub mod Machine
pub mod Runs
pub mod Passages
