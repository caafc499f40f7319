-- Shapes and lists of shapes: what cleaning keeps, their order and forms.
pub mod Kept
pub mod Order
pub mod SortedOrders
pub mod Forms
