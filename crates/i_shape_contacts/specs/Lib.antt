pub mod Meeting
pub mod Contacts
pub mod Along
pub mod Kinds
pub mod Listing
pub mod Validity
pub mod Courses
pub mod Steps
