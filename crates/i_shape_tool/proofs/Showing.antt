-- Showing a number and a contour.
pub mod Decimals
pub mod Pairs
pub mod Contours
