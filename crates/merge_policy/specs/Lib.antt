pub mod Meaning
pub mod Kinds
pub mod Calls
pub mod Boxes
