-- What is proved of the rules; not needed to read them.
-- Codes: refusal 1 is "code not 1-14". Checks: each test fails exactly where the paper's words hold; the checks in order, as equations.
-- RingChecks: the same of a ring, 6 (odd length), 7 and 9.
-- Root, Nearest: the square root is the whole-number one; products and quotients are floors; the rounding is the nearest, ties to even, and the only one.
-- OwnAnswers: what the definition itself answers is right. Legs: plane to plane, ring conversion and job by a forward and an inverse that are right are right.
-- Listed: every refusal has a number in use, so none is 10. Clauses: what a call owes, from the value that it answers. Terminals: two answers that are right are a unit apart at most.
-- Meridian: d = 0 gives Y = y0, y0 gives d = 0, and what the scale is there. EastWest: refusals 2, 3 and 4 are the same on either side; the central meridian, of any answer that is right.
-- Job: no bound on recursion is felt; the job record by record; decimal digits; signed numbers.
-- Tried: what the definitions compute to.
-- Signs, Sums, Lines, SameTurning, Demand: demand 3. Numbers: P1 to P12. Edges: edge k. Meeting, Folding, Pairs: the crossing test answers by the rule.
-- Outside: a point beyond all corners of a ring has turning number 0 there.
-- Looked: the pairs of edges in their order, how many there are, and the place of each.
-- OnEdge: a whole point of an edge. Placing: the test of where an inner ring lies answers by the rule, and one corner decides.
-- Fields: the nozzle rule over a field's rings, ring by ring. AcceptedFields: a field that is accepted is read so, and its inner rings are well placed.
pub mod Codes
pub mod Checks
pub mod RingChecks
pub mod Root
pub mod Nearest
pub mod OwnAnswers
pub mod Legs
pub mod Listed
pub mod Clauses
pub mod Terminals
pub mod Meridian
pub mod EastWest
pub mod Job
pub mod Signs
pub mod Sums
pub mod Lines
pub mod SameTurning
pub mod Edges
pub mod Outside
pub mod Meeting
pub mod Folding
pub mod OnEdge
pub mod Placing
pub mod Fields
pub mod AcceptedFields
pub mod Pairs
pub mod Looked
pub mod Tried
pub mod Demand
pub mod Numbers
