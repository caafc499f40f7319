-- Sums over edges: area, containment, winding numbers.
pub mod Edges
pub mod RotatedEdges
pub mod Inside
pub mod Windings
pub mod RationalWindings
pub mod AreaWalk
pub mod AreaByPlaces
pub mod InsideWalk
pub mod WindingWalk
pub mod Heights
pub mod BoundaryWalk
