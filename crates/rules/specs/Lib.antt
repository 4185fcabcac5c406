-- Documents 01 and 02 as definitions. Each file stands for a section of paper 01 and quotes its sentences, and those of 02 that change it, above the definitions that say them.
--   01, Units                            Units
--   01, The systems                      Systems
--   01, The projection as whole numbers  Scaled (arithmetic, series), Projection (forward, inverse), Rounding (nearest, the band), Polynomial (the step in f64),
--                                        Points (what forward, inverse and plane to plane answer), Terminals (02 (v): two answers that are both right),
--                                        EastWest (02 (xi): two points on either side of the central meridian)
--   01, Rings                            Rings (the rules), Crossing (the crossing test, by computing), RingAnswers (checks and answers of a ring), Conversion
--   02 (i), Ponds and barns              Fields (a field's rings, where an inner ring may lie, the nozzle rule), Placing (the test of where it lies, by computing), FieldAnswers
--   01, The job file                     JobFile
--   01, Refusal numbers and their order  Refusals (the numbers, and checks in order); each call's order stands in its own definition
--   01, Numbers to try                   Numbers (P1 to P12), Tried (J, the bow tie, the numbers to run, nozzles, each series, two points of each code, each limit)
--   demand 3                             Demand
-- Computing opens every definition at once, for statements by computation. proofs/Laws has what is proved of the rules, and is not needed to read them.
pub mod Units
pub mod Refusals
pub mod Systems
pub mod Scaled
pub mod Projection
pub mod Rounding
pub mod Polynomial
pub mod Points
pub mod Terminals
pub mod EastWest
pub mod Rings
pub mod Crossing
pub mod RingAnswers
pub mod Fields
pub mod Placing
pub mod FieldAnswers
pub mod Conversion
pub mod JobFile
pub mod Computing
pub mod Numbers
pub mod Tried
pub mod Demand
pub mod Laws
