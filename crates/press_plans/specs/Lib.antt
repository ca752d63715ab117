pub mod Filling
pub mod Listed
pub mod Pastes
pub mod Plans
