pub mod BitLemmas
pub mod MarkLemmas
pub mod NumberLemmas
pub mod GroupLemmas
pub mod PoolLemmas
pub mod FillLemmas
pub mod LowestLemmas
