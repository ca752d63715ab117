mod Copying
mod Ending
mod Holding
mod Lines
mod Places
mod Showing
