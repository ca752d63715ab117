pub mod Pairing
pub mod PairStatuses
