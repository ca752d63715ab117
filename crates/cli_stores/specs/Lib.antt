pub mod NewStores
pub mod Refusals
pub mod Statuses
