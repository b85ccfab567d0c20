pub mod Parts
pub mod RequestParts
pub mod OptionParts
