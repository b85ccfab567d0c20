pub mod ClapRows
pub mod ClapWalk
pub mod NumberLemmas
pub mod ScanLemmas
pub mod TokenLemmas
pub mod JobLemmas
