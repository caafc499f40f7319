-- What steps of cleaning leave, which only private functions cite.
pub mod AppendedAnswers
pub mod LeftInPlace
