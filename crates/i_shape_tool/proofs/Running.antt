-- A text, line by line, and one run of the program.
pub mod Lines
pub mod Gathering
pub mod Serving
pub mod TwoTexts
