-- Points of the plane, and contours of the program's points.
pub mod CrossProducts
pub mod Back
pub mod Contours
pub mod PointLists
pub mod SafeParts
