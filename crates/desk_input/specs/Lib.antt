pub mod Reads
pub mod Stale
pub mod Lines
pub mod Scrolling
