-- Reading a text: words, numbers and lines.
pub mod Words
pub mod Numerals
pub mod Lines
pub mod Laws
