-- Convexity, and the walk that tests it.
pub mod Removal
pub mod Ends
pub mod Laws
pub mod Around
pub mod BendWalk
