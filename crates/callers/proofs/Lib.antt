pub mod SamePoints
pub mod StoredForms
pub mod StoredPolygons
