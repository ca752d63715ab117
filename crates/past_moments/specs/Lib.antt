pub mod Moments
pub mod Seeking
pub mod Words
