-- How polygons are sorted and written, and entries of points: what private functions cite. The calls for forms of
-- polygons and of features cite `Sorted` too.
pub mod Appended
pub mod Sorted
pub mod AskedFor
