pub mod Places
pub mod Touching
pub mod Steps
