-- What the searches for a contact keep, which no call for users cites.
pub mod Boxes
pub mod Chunks
pub mod Deciding
pub mod Orders
pub mod Rings
