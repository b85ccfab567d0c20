pub mod BigEndian
pub mod Requests
pub mod Replies
pub mod Options
pub mod Kinds
pub mod Exports
