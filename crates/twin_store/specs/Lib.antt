pub mod Legs
pub mod OnTwins
