pub mod Below
pub mod OnLegs
pub mod Keeping
