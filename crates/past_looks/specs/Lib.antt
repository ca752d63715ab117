pub mod Words
pub mod Looking
