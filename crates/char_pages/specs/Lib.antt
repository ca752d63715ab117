pub mod Cached
pub mod Occurrences
pub mod Found
pub mod Pages
pub mod Ground
pub mod GroundLaws
