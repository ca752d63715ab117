pub mod Painted
pub mod Listed
pub mod Comparing
pub mod LosingLemmas
pub mod RivalLemmas
pub mod TakenLaws
pub mod LossLemmas
pub mod InfoLemmas
