pub mod Recent
pub mod Entries
pub mod View
pub mod Calls
pub mod Moves
pub mod Kept
pub mod Lending
