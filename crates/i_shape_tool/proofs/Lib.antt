-- reading a text: words, numbers and lines
pub mod Reading
-- showing a number and a contour
pub mod Showing
-- a text, line by line, and one run of the program
pub mod Running
-- the definitions at literal texts
pub mod Examples
