pub mod Due
pub mod Storing
pub mod Brought
pub mod Coming
pub mod Passing
pub mod Prefixes
pub mod Aside
mod Between
mod Opened
pub mod Undoing
pub mod BackAgain
pub mod Stepped
pub mod Behind
pub mod Turning
