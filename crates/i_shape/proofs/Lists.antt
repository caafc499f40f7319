-- Lists: concatenated, sorted, permuted, what cleaning leaves of them.
pub mod Equality
pub mod Surviving
pub mod EndToEnd
pub mod WrappedSums
pub mod Fewer
pub mod Permutations
pub mod Uniqueness
pub mod Sorting
pub mod Matches
