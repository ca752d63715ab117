pub mod Bytes
pub mod Mark
pub mod Picture
pub mod Screen
pub mod Printed
