pub mod Calls
pub mod Lines
pub mod Rewriting
pub mod Words
