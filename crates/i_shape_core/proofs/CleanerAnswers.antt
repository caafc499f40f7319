-- What the answers of cleaners keep, and what they write.
pub mod Kept
pub mod Cleaners
pub mod Written
