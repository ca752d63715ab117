pub mod Meant
pub mod Pastes
pub mod Planning
pub mod Refilled
pub mod Seeking
