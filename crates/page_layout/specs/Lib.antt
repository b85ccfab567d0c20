pub mod Numbers
pub mod Shape
pub mod Tables
pub mod Entries
pub mod Fingerprint
pub mod Formed
