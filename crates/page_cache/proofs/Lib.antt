pub mod RecentLemmas
pub mod EntryLemmas
pub mod EditLemmas
pub mod MoveLemmas
pub mod FixedLemmas
