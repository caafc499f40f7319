pub mod Ends
pub mod Windings
pub mod Moved
pub mod Contacts
