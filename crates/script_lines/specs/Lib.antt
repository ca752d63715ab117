pub mod Answer
pub mod Digits
pub mod Percent
pub mod Reading
pub mod Request
pub mod Script
pub mod Stretch
pub mod Words
