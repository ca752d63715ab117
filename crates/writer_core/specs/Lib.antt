pub mod Number
pub mod Written
