pub mod Between
mod Due
mod Fetching
mod Forgetting
mod PressLaws
mod Questions
pub mod Seen
pub mod Surviving
mod Told
pub mod Turning
pub mod Whole
