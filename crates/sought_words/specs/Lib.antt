pub mod Nearest
pub mod Places
pub mod Sought
