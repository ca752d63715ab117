pub mod AtHand
pub mod Backward
