pub mod Clicks
pub mod Keyed
pub mod Names
pub mod Pieces
pub mod Spots
pub mod Tests
pub mod Typing
