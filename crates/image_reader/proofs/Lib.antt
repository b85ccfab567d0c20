pub mod Looking
pub mod TablesAt
pub mod WellFormed
pub mod ZeroTables
pub mod Naming
pub mod Pushed
