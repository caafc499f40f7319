-- Cleaning in place.
pub mod Contours
pub mod Spikes
pub mod Left
pub mod Longest
