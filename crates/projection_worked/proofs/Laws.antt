-- How near the worked values are to the definition's. Right: every answer of the forward and of the inverse is right by the rules.
-- Steps: no step in f64 fails to be finite. Meridian: on the central meridian the scale is m0. Mirror: east and west of it answers and refusals are alike, there and back.
-- InverseChecked, Sides, Undoing: laws that the functions' proofs cite.
-- Examples: the false easting near a half.
pub mod Examples
pub mod Millimetres
pub mod Argument
pub mod Plane
pub mod West
pub mod Size
pub mod Forward
pub mod Taken
pub mod Slope
pub mod SlopeParts
pub mod Derivative
pub mod InverseLengths
pub mod InverseUndone
pub mod InversePlane
pub mod InverseLine
pub mod InverseRange
pub mod InverseSizes
pub mod InverseTicks
pub mod InverseBox
pub mod Inverse
pub mod Point
pub mod Steps
pub mod Meridian
pub mod Right
pub mod Sides
pub mod Undoing
pub mod InverseChecked
pub mod MirrorParts
pub mod Mirror
