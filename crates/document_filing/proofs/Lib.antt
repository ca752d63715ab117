pub mod Sums
pub mod BringingLaws
pub mod Gathering
