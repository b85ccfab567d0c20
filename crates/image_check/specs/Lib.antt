pub mod Verdicts
pub mod Reads
pub mod Steps
pub mod Stops
