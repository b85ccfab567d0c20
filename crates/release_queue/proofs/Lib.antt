pub mod LookLemmas
pub mod MapLemmas
pub mod TurnLemmas
