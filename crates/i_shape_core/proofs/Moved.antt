-- Contours that are moved by an affine map.
pub mod Mapped
pub mod ZeroTurns
