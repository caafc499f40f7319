-- Canonical and unoriented forms.
pub mod Canonical
pub mod Backwards
pub mod Unoriented
pub mod LesserWay
pub mod ContourOrder
