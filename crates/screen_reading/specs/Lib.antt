pub mod Aims
pub mod Along
pub mod Called
pub mod CommandWords
pub mod Extended
pub mod Frames
pub mod Picked
pub mod Windows
