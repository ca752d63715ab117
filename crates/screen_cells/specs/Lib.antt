pub mod Shown
pub mod Rows
pub mod Sent
pub mod Walks
pub mod Lines
