-- The walks of the cleaners and of the tests.
pub mod Stack
pub mod Prefixes
pub mod StackReads
pub mod Found
pub mod Gaps
pub mod Ring
pub mod RingStates
pub mod Spikes
pub mod Turning
pub mod RisingPlaces
