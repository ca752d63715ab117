mod Counting
mod Gone
mod Kept
mod Ways
pub mod Carried
pub mod Telling
pub mod Walking
