pub mod Looks
pub mod SortedLaws
pub mod Texts
mod Imports
mod Failing
mod PartLaws
mod Takings
mod FillingLaws
mod LookLaws
mod Pieces
