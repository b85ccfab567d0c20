-- Words that several crates share, each in one file; those further down stand on those above.
pub mod Contents
pub mod Counting
pub mod World
pub mod Paths
pub mod Edges
pub mod Levels
pub mod Calls
pub mod Pool
