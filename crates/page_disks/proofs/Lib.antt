pub mod Spellings
pub mod Repeated
pub mod Recorded
pub mod Loaded
