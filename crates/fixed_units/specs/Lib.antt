-- Scale and convergence in whole units of the answers. Worked has each number as it is worked, Examples has some of them worked out; the others have how near it is to
-- the definition's.
pub mod Worked
pub mod Rounded
pub mod Scale
