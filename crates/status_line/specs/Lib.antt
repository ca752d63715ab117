pub mod Choosing
pub mod Clicks
pub mod Deeds
pub mod Fitting
pub mod Named
pub mod Opened
pub mod Question
pub mod Sayings
