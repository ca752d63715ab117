pub mod Accepted
mod Asked
pub mod Carrying
pub mod Done
mod Found
pub mod Looked
pub mod Marks
pub mod Posts
pub mod Pressed
pub mod Sessions
pub mod Taking
mod Travelling
