pub mod Nearest
pub mod SearchOn
