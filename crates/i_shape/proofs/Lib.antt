-- the definitions of points, contours, shapes and buffers that proofs name
mod Common
-- lists: concatenated, sorted, permuted, what cleaning leaves of them
pub mod Lists
-- shapes and lists of shapes: what cleaning keeps, their order and forms
pub mod Shapes
-- flat buffers: what they hold, and cleaning inside them
pub mod Buffers
-- cleaning in place
pub mod InPlace
-- what callers cite
pub mod CallerLemmas
-- the definitions of flat lists, shapes and ranges at literal values
pub mod Examples
