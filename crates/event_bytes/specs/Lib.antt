pub mod Bytes
pub mod Keys
pub mod Parts
pub mod Reading
pub mod Spelling
