-- How a number is read, which only private functions cite.
pub mod Numeral
