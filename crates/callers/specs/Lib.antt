pub mod Store
pub mod Polygons
pub mod Refusals
