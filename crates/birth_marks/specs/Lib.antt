pub mod Pages
pub mod Births
pub mod Kept
