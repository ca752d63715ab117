pub mod Calls
pub mod Choosing
pub mod Counting
pub mod Fronts
pub mod Laying
pub mod Loading
pub mod NewSlot
pub mod CharacterRead
pub mod Recording
pub mod TakingBack
pub mod Renewing
pub mod Settled
pub mod Settling
pub mod Starting
pub mod Staying
pub mod Streaming
pub mod Beside
pub mod SlotStarts
pub mod Formers
mod Passed
mod Alike
pub mod Gathered
pub mod Brought
pub mod Spelled
