pub mod Views
pub mod Unstored
pub mod Losses
pub mod Info
