-- Numbers.
pub mod WholeNumbers
pub mod Polynomials
pub mod Products
pub mod Coordinates
pub mod WiderProducts
pub mod Comparisons
