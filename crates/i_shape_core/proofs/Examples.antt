-- The definitions at literal contours.
pub mod Definitions
pub mod ShortContours
