pub mod Shapes
mod Parts
mod Gathering
