pub mod View
pub mod Lending
