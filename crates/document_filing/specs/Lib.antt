pub mod Bringing
pub mod Gathered
