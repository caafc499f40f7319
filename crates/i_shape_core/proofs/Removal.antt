-- Removals from a contour: steps, ends, rotations, both directions.
pub mod Tests
pub mod Rotations
pub mod Places
pub mod Steps
pub mod Confluence
pub mod Ends
pub mod Reversal
pub mod BackFirst
pub mod ZeroTurns
pub mod Repeats
pub mod Dedup
pub mod WithoutBack
