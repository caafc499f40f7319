-- What the tests of a polygon whose rings touch keep, which no call for users cites.
pub mod Touches
pub mod Pieces
pub mod Labels
pub mod Middles
