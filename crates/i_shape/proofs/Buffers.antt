-- Flat buffers: what they hold, and cleaning inside them.
pub mod Contours
pub mod ShapeRanges
pub mod Shapes
pub mod CleanedContours
pub mod WrittenBehind
pub mod CleanedShapes
pub mod LentPaths
pub mod AnyPoints
