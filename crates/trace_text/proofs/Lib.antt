pub mod Numbers
pub mod Trimmed
pub mod Filled
pub mod Split
pub mod Only
pub mod Shapes
pub mod Lengths
pub mod Pairs
