pub mod Spelling
pub mod Recording
pub mod Repeating
pub mod Loading
