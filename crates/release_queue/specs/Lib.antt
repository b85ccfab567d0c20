pub mod Queued
pub mod Needed
