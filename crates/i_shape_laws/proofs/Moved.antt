-- Contours that are moved by an affine map.
pub mod Ends
pub mod Points
pub mod Back
pub mod Spikes
pub mod Laws
pub mod Windings
