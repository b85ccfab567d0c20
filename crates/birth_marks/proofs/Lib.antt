pub mod TableLemmas
pub mod LinkLemmas
pub mod KeptLemmas
pub mod SweepLemmas
pub mod CallLemmas
pub mod PageLemmas
