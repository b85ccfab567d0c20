pub mod Faults
pub mod Reading
pub mod Mount
pub mod Made
pub mod Describes
