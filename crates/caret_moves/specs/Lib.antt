pub mod Runs
pub mod Steps
pub mod Calling
pub mod Stretches
pub mod Filling
pub mod Leading
