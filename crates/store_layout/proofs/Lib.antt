pub mod Bits
pub mod Drained
pub mod Filled
pub mod FillingLaws
pub mod StandingLaws
mod Agreeing
mod Heads
mod OneStanding
mod OneFinding
