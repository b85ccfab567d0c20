pub mod Stopped
pub mod Malformed
pub mod Comparing
pub mod Printing
pub mod Reading
pub mod Judging
