pub mod Deeds
pub mod Reopening
pub mod Run
