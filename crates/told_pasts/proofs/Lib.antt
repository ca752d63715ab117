pub mod Counted
pub mod Lines
pub mod Parts
pub mod Reached
pub mod Replayed
pub mod Stops
