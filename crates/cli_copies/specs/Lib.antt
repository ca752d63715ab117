pub mod Copies
pub mod Sectors
pub mod Stops
