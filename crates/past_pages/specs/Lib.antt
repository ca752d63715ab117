pub mod Copies
pub mod Page
pub mod Marks
pub mod Reading
pub mod Sectors
pub mod Laying
pub mod Parts
