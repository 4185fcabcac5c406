-- What is proved of the definitions; not needed to read them.
-- Lines: a line tells the answer that printed it. Alike: jobs that stand for one state answer alike, a job and a record allow one result, and a
-- job that stays where it lies comes to the same.
pub mod Lines
pub mod Alike
