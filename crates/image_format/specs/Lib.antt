pub mod Passing
pub mod Image
pub mod Fitting
pub mod Reading
pub mod Steps
pub mod Streams
pub mod Pictures
pub mod Laws
