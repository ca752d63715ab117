pub mod Carrying
mod Parts
