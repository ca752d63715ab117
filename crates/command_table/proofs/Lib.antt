pub mod Deciding
pub mod FirstNames
pub mod Gathering
pub mod Runs
pub mod Values
pub mod Window
pub mod Words
