-- parts of a list without repeated points
pub mod DistinctPoints
-- contours that are joined
pub mod Forms
-- winding numbers: parity, and their laws
pub mod Windings
-- what fill rules fill
pub mod Fillings
-- contours that are moved by an affine map
pub mod Moved
-- the points on the edges
pub mod Boundaries
-- simple and valid polygons
pub mod Polygons
