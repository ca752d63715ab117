pub mod Reaching
pub mod Stopping
pub mod Telling
pub mod Words
