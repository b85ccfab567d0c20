pub mod Bits
pub mod Marks
pub mod Numbers
pub mod Pool
pub mod Kept
pub mod Calls
