pub mod Call
pub mod Codes
pub mod Commands
pub mod Deciding
pub mod Parameters
pub mod Versions
