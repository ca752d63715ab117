pub mod Finding
pub mod Refilling
pub mod Tasks
