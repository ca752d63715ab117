pub mod Calling
pub mod Copies
pub mod Held
pub mod Panes
pub mod Viewing
