pub mod Looked
pub mod Formed
pub mod Tallies
