pub mod Caching
pub mod Occurring
pub mod Paging
