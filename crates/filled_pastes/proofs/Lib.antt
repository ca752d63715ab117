mod Lossless
mod Pours
mod Downward
mod Kept
