pub mod Again
pub mod Kinds
pub mod Past
