pub mod Calling
pub mod Former
pub mod Running
pub mod Staying
