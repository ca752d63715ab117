pub mod Replacing
pub mod Twice
