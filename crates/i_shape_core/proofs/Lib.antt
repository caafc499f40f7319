-- the definitions that most proofs name
pub mod Common
-- numbers
pub mod Arithmetic
-- points of the plane, and contours of the program's points
pub mod Plane
-- lists: concatenated, mapped, what a loop has read, sublists
pub mod Lists
-- removals from a contour: steps, ends, rotations, both directions
pub mod Removal
-- sums over edges: area, containment, winding numbers
pub mod Sums
-- contours that are moved by an affine map
pub mod Moved
-- convexity, and the walk that tests it
pub mod Convex
-- the walks of the cleaners and of the tests
pub mod Walks
-- the least rotation, and the search for it
pub mod LeastRotation
-- canonical and unoriented forms
pub mod Forms
-- what the answers of cleaners keep, and what they write
pub mod CleanerAnswers
-- the definitions at literal contours
pub mod Examples
