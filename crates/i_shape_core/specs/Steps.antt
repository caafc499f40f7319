-- The states of walks and searches, which only private functions cite.
pub mod Walks
