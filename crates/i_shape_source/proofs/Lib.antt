-- what lends a list of paths, as loops and chains read it
pub mod Lent
-- safe paths
pub mod SafePaths
