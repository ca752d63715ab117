pub mod Acknowledged
pub mod Chaining
pub mod Reopening
pub mod Surviving
