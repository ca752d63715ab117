mod Coming
mod Looking
mod Turned
