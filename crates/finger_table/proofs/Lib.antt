pub mod Ranks
pub mod ListFunctions
pub mod Found
pub mod Edited
pub mod Ranges
pub mod Filled
pub mod Comparing
