-- Functions of an angle by bands of a quarter of a degree.
--   Worked, Tables                  as they are worked, and the code's tables; Examples has four values worked out
--   Polynomials, Models, Functions  the definition's own functions followed along a band, as a polynomial and an error
--   Traces, Rows, Tests             the worked polynomial followed along a band; what is asked of a row and of every row of a table
--   Along, Checks                   each table's function with its model; every band tested, by computing (Numbers opens what computes)
--   Bands                           how near the worked numbers are, between which numbers they lie, and what the code asks of the rows
pub mod Tables
pub mod Worked
pub mod Examples
pub mod Polynomials
pub mod Models
pub mod Functions
pub mod Traces
pub mod Rows
pub mod Tests
pub mod Along
pub mod Numbers
pub mod Checks
pub mod Bands
