-- The least rotation, and the search for it.
pub mod Order
pub mod Rounds
pub mod Starts
pub mod Search
pub mod SearchSteps
pub mod Readings
pub mod StartSteps
